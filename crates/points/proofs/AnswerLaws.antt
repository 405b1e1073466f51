-- How answers are shown: a refusal leaves the buffer alone, data that were gathered behind the head are an answer, and a point is set.
-- Assumes nothing.
use Rattle.std.proofs.Common.{◌≡◌, ℕ, zero, suc, ◌+◌, ◌-◌, ◌<◌, ◌≤◌, false, cond, eqb, List, [], ◌∷◌, ◌++◌, length, take, drop, sym, refl, ap, ◌∙◌, arith, le-ltb, lt-ltb, eq-eqb, ne_eqb, length-take}
use Rattle.std.proofs.lemmas.List.{take-append-drop}
use Rattle.std.specs.Array.{IsFirstChunk}
use Rattle.chars.specs.Put.{put}
use Rattle.chars.specs.Gather.{gather, Gathered}
use Rattle.chars.proofs.PutLaws.{put-none}
use Rattle.model.specs.Limits.{reply_head, most_data, longest_reply}
use Rattle.model.specs.Frame.{Request}
use Rattle.model.specs.Outcome.{number_of}
use Rattle.model.specs.Scan.{Scan, Fills, refuses, counts, with_no_data, in_room}
use Rattle.model.specs.Inputs.{Changed, unchanged}
use Rattle.model.specs.declared.Outcome.{Outcome}
use Rattle.model.specs.declared.Outcome.TheVariants.{WrongCount, BufferShort}
use Rattle.model.specs.declared.Filled.{Filled}
use Rattle.points.specs.Answer.{no_data, Sets}

-- ---- room, and the count of data

pub in_room_lem : (m : Scan) (room : ℕ) → longest_reply ≤ room → in_room room m ≡ m
unfolding in_room
in_room_lem m room h = simp (le-ltb _ _ h)

pub no_room : (m : Scan) (room : ℕ) → room < longest_reply → in_room room m ≡ refuses BufferShort
unfolding in_room
no_room m room h = simp (lt-ltb _ _ h)

pub no_data_lem : (q : Request) (m : Scan) → length q.body ≡ 0 → with_no_data q m ≡ m
unfolding with_no_data counts
no_data_lem q m h = simp (eq-eqb _ _ h)

pub some_data : (q : Request) (m : Scan) → (length q.body ≡ 0 → ⊥) → with_no_data q m ≡ refuses WrongCount
unfolding with_no_data counts
some_data q m h = simp (ne_eqb _ _ h)

-- ---- answers

-- written over the front alone, where all lies in it
put-front : (xs zs : List ℕ) (at : ℕ) (ys : List ℕ) → at + length ys ≤ length xs → put (xs ++ zs) at ys ≡ put xs at ys ++ zs
unfolding put
put-front [] zs zero [] h = put-none zs 0
put-front [] zs zero (y ∷ ys) h = absurd (omega arith)
put-front [] zs (suc at) ys h = absurd (omega arith)
put-front (x ∷ xs) zs zero [] h = refl
put-front (x ∷ xs) zs zero (y ∷ ys) h = ap (λ (l : List ℕ). y ∷ l) (put-front xs zs zero ys (omega arith))
put-front (x ∷ xs) zs (suc at) ys h = ap (λ (l : List ℕ). x ∷ l) (put-front xs zs at ys (omega arith))

pub fills_refused : {entry exit : List ℕ} {m : Scan} {r : Filled} (o : Outcome) → m ≡ refuses o → r ≡ no_data o → exit ≡ entry → Fills entry exit m r
fills_refused o e f w = rw (e, f, w) (record { ended = refl; counted = refl; written = sym (put-none _ _) })

-- gathered data, whatever the outcome
pub fills_gathered : {f : ℕ → List ℕ} {ns entry exit : List ℕ} {m : Scan} {r : Filled} {to : ℕ} (o : Outcome)
    → Gathered f ns entry reply_head exit to → m ≡ record { outcome = o; chars = gather f ns } → r ≡ record { outcome = o; count = to - reply_head } → Fills entry exit m r
fills_gathered o g e f = rw (e, f) (record { ended = refl; counted = omega (arith, g.place); written = g.chars })

-- the same answer in a whole buffer, of which the front, as long as a reply, was lent
pub fills_front : {entry lent front : List ℕ} {m : Scan} {r : Filled} → length m.chars ≤ most_data → IsFirstChunk entry lent longest_reply
    → Fills lent front m r → Fills entry (front ++ drop longest_reply entry) m r
fills_front {entry} {m = m} h l a = record {
  ended = a.ended;
  counted = a.counted;
  written = ap (λ (xs : List ℕ). xs ++ drop longest_reply entry) (a.written ∙ ap (λ (xs : List ℕ). put xs reply_head m.chars) l.same)
      ∙ sym (put-front (take longest_reply entry) (drop longest_reply entry) reply_head m.chars (let e = length-take longest_reply entry in omega (arith, e, l.enough)))
      ∙ ap (λ (xs : List ℕ). put xs reply_head m.chars) (take-append-drop longest_reply entry);
}

-- the same answer, where what was asked came to is known by an equation
pub fills_as : {entry exit : List ℕ} {m m' : Scan} {r : Filled} → m ≡ m' → Fills entry exit m' r → Fills entry exit m r
fills_as e a = rw e a

pub sets : {m m' : Changed} {u w v : List ℕ} {r : Outcome} → m ≡ m' → r ≡ m'.says.outcome → v ≡ cond (eqb (number_of r) 0) w u → Sets m u w v r
sets e f w = rw e (record { ended = f; left = w })

-- a refusal, where a reply would tell of the change
pub resets_refused : (u w : List ℕ) {entry : List ℕ} {m : Changed} {r : Filled} (o : Outcome) (area : List ℕ) → m ≡ unchanged o area
    → eqb (number_of o) 0 ≡ false → r ≡ no_data o → Fills entry entry m.says r × (u ≡ cond (eqb (number_of r.outcome) 0) w u)
resets_refused u w o area e z f = (fills_refused o (ap (λ (x : Changed). x.says) e) f refl, rw (f, z))

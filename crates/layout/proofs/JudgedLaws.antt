-- Laws of judging: tests that every number of a run passes, what stands in for the records, and the parts in the order of the code.
-- Assumes nothing.
use Rattle.std.specs.Prelude.{◌≡◌, ℕ, zero, suc, ◌+◌, ◌-◌, ◌*◌, ◌%◌, ◌<◌, ◌≤◌, Bool, true, false, cond, ◌&&◌, eqb, ltb, leb, List, [], ◌∷◌, ◌++◌, length, get_or, drop, None, Option, Some}
use Rattle.std.specs.List.{fold}
use mathlib.Core.Path.{refl, sym, ap, ◌∙◌}
use native.Mathlib.Numerals.{add-one}
use native.Mathlib.Nat.{mod-eq_of_lt}
use native.Mathlib.Omega.{arith}
use mathlib.Core.Bool.{and_assoc, and-true, and-false}
use lib.ListN.{length-replicate, length-drop, get_or-eq_default}
use lib.Seq.{take_all}
use lib.Bits.{bit_or, or_zero_l, or_add_and, and_le_r}
use borrow.Author.Tests.{ltb-true, ltb-false, leb-true, eqb-true, lt-ltb, le-leb, lt-leb, eq-eqb, ne_eqb}
use Rattle.chars.specs.Put.{part}
use Rattle.chars.specs.Gather.{up_from, every}
use Rattle.chars.proofs.PutLaws.{part_none, part-more}
use Rattle.chars.proofs.GatherLaws.{up_none, up_more}
use Rattle.model.specs.Config.{Config, has, within, has_file, none_in, file_valid, valid_of}
use Rattle.model.specs.State.{Areas, Files, held_in}
use Rattle.model.specs.Limits.{most_means}
use Rattle.model.specs.Means.{samples_at}
use Rattle.model.specs.Clock.{clock_fits}
use Rattle.model.specs.Plans.{planned, plans_fit}
use Rattle.model.specs.Fits.{fits, areas_fit, core_fits, port_fits, history_fits, memory_fits, reply_fits, file_fits, samples_fit}
use Rattle.model.specs.declared.Core.{Core}
use Rattle.model.specs.declared.HistoryReply.{HistoryReply}
use Rattle.model.specs.declared.Port.{Port}
use Rattle.model.proofs.Conditions.{by_bool, every_append, and_left, and_right, and_both}
use Rattle.layout.specs.Numbers.{clock_in, core_in, memory_in, port_in, readable}
use Rattle.layout.proofs.RangeLaws.{same_bool, readable-parts}
use Rattle.layout.specs.Judged.{
  files_by,
  kept_by,
  fits_by,
  clock_judged,
  hold_judged,
  write_judged,
  bits_judged,
  memory_judged,
  port_judged,
  core_judged,
  config_judged,
  samples_by,
  means_judged,
}

-- ---- tests in a row: the answer x where the first was passed, and where it was not

module _ {a x : Bool} where
  pub and_on : {b : Bool} → a ≡ true → x ≡ b → x ≡ (a && b)
  and_on p q = rw p q

  pub and_off : (b : Bool) → a ≡ false → x ≡ false → x ≡ (a && b)
  and_off b p q = rw p q

-- ---- every number of a run passes

every_end : (f : ℕ → Bool) (ns : List ℕ) (n : ℕ) → every f (ns ++ (n ∷ [])) ≡ (every f ns && f n)
unfolding every
every_end f ns n = every_append f ns (n ∷ []) ∙ ap (λ (b : Bool). every f ns && b) (and-true (f n))

pub every-start : (f : ℕ → Bool) → true ≡ every f (up_from 0 0)
unfolding every
every-start f = rw up_none

pub every-next : (f : ℕ → Bool) (i : ℕ) → every f (up_from 0 (i + 1)) ≡ (every f (up_from 0 i) && f i)
every-next f i = let e : 0 + i ≡ i = omega arith in rw up_more (every_end f (up_from 0 i) (0 + i) ∙ rw e)

-- numbers joined by or are 0 where both are
pub or_none : (a b : ℕ) → eqb (bit_or a b) 0 ≡ (eqb a 0 && eqb b 0)
or_none zero b = rw or_zero_l
or_none (suc a) b =
    let e : bit_or (suc a) b ≡ 0 → ⊥ = λ q. omega (arith, or_add_and (suc a) b, and_le_r (suc a) b) in
    let k : suc a ≡ 0 → ⊥ = λ q. omega arith in
    rw (ne_eqb (bit_or (suc a) b) 0 e, ne_eqb (suc a) 0 k)

-- two flags at once, which are told by numbers that are 0 where all is well
and_cross : (a b c d : Bool) → ((a && b) && (c && d)) ≡ ((a && c) && (b && d))
and_cross true b true d = refl
and_cross true b false d = and-false b
and_cross false b c d = refl

pub both_start : (f g : ℕ → Bool) → eqb 0 0 ≡ (every f (up_from 0 0) && every g (up_from 0 0))
both_start f g = rw (← every-start f, ← every-start g)

pub both_next : (f g : ℕ → Bool) (i x y : ℕ) → eqb x 0 ≡ (every f (up_from 0 i) && every g (up_from 0 i)) → eqb y 0 ≡ (f i && g i)
    → eqb (bit_or x y) 0 ≡ (every f (up_from 0 (i + 1)) && every g (up_from 0 (i + 1)))
both_next f g i x y p q = rw (or_none x y, p, q, every-next f i, every-next g i, and_cross)

pub both_done : (f g : ℕ → Bool) {b : Bool} {i n : ℕ} → b ≡ (every f (up_from 0 i) && every g (up_from 0 i)) → i ≡ n
    → b ≡ (every f (up_from 0 n) && every g (up_from 0 n))
both_done f g e q = rw q at e

-- two tests of each number of the run, at once
pub every_both : (f g : ℕ → Bool) (n : ℕ) → every (λ k. f k && g k) (up_from 0 n) ≡ (every f (up_from 0 n) && every g (up_from 0 n))
every_both f g zero = rw (← every-start f, ← every-start g, ← every-start (λ k. f k && g k))
every_both f g (suc n) = rw (← add-one, every-next, every-next, every-next, every_both f g n, and_cross)

-- two tests that agree on each number of the run
every-same : (f g : ℕ → Bool) (n : ℕ) → ((k : ℕ) → k < n → f k ≡ g k) → every f (up_from 0 n) ≡ every g (up_from 0 n)
every-same f g zero h = sym (every-start f) ∙ every-start g
every-same f g (suc n) h =
    rw (← add-one, every-next, every-next, every-same f g n (λ k l. h k (omega arith)), h n (omega arith))

-- ---- none of a run of a table is equipped

part_clipped : (xs : List ℕ) (low i : ℕ) → length xs ≤ low + i → part xs low (i + 1) ≡ part xs low i
unfolding part
part_clipped xs low i h =
    let l = length-drop low xs in
    take_all (i + 1) (drop low xs) (omega (arith, l)) ∙ sym (take_all i (drop low xs) (omega (arith, l)))

pub none-start : (table : List ℕ) (low : ℕ) → true ≡ none_in table low 0
unfolding none_in every
none-start table low = rw part_none

-- past the end a run reads 0, which passes too
run_next : (f : ℕ → Bool) → f 0 ≡ true → (xs : List ℕ) (low i : ℕ) → every f (part xs low (i + 1)) ≡ (every f (part xs low i) && f (get_or xs (low + i) 0))
run_next f z xs low i =
    by_bool (ltb (low + i) (length xs))
    (λ e. let h = ltb-true (low + i) (length xs) e in rw (part-more xs low i h) (every_end f (part xs low i) (get_or xs (low + i) 0)))
    (λ e. let h = ltb-false (low + i) (length xs) e in
    rw (part_clipped xs low i h, get_or-eq_default xs 0 {n = low + i} h, z) (sym (and-true _)))

pub none-next : (table : List ℕ) (low i : ℕ) → none_in table low (i + 1) ≡ (none_in table low i && eqb (get_or table (low + i) 0) 0)
unfolding none_in
none-next table low i = run_next (λ x. eqb x 0) refl table low i

-- all of them joined at once
pub joined-none : (a : ℕ) (xs : List ℕ) → eqb (fold bit_or a xs) 0 ≡ (eqb a 0 && every (λ x. eqb x 0) xs)
unfolding every
joined-none a [] = sym (and-true (eqb a 0))
joined-none a (x ∷ xs) = joined-none (bit_or a x) xs ∙ rw or_none (and_assoc (eqb a 0) (eqb x 0) (every (λ x. eqb x 0) xs))

-- ---- every outcome of the plans is one

pub plans-start : (xs : List ℕ) → true ≡ every planned (part xs 0 0)
unfolding every
plans-start xs = rw part_none

pub plans-next : (xs : List ℕ) (i o : ℕ) {x y : Bool} → x ≡ every planned (part xs 0 i) → y ≡ planned o → get_or xs i 0 ≡ o
    → (x && y) ≡ every planned (part xs 0 (i + 1))
unfolding planned
plans-next xs i o p q e =
    let z : 0 + i ≡ i = omega arith in
    rw (p, q) (sym (run_next planned refl xs 0 i ∙ rw (z, e)))

-- ---- what stands in for the records

pub held_by : (counts : List ℕ) (f : ℕ) → length (held_in (files_by counts) f) ≡ get_or counts f 0
unfolding held_in files_by
held_by [] f = refl
held_by (n ∷ counts) zero = length-replicate n []
held_by (n ∷ counts) (suc f) = held_by counts f

pub sampled_by_lem : (taken : List ℕ) (p : ℕ) → length (samples_at (samples_by taken) p) ≡ get_or taken p 0
unfolding samples_at samples_by
sampled_by_lem [] p = refl
sampled_by_lem (n ∷ taken) zero = length-replicate n 0
sampled_by_lem (n ∷ taken) (suc p) = sampled_by_lem taken p

-- ---- a file, by its tables

over_none : (n limit : ℕ) → eqb (n - limit) 0 ≡ leb n limit
over_none n limit =
    same_bool (eqb (n - limit) 0) (leb n limit)
    (λ e. let p : n - limit ≡ 0 = eqb-true (n - limit) 0 e in le-leb n limit (omega arith))
    (λ e. let p : n ≤ limit = leb-true n limit e in eq-eqb (n - limit) 0 (omega arith))

values-none : (n : ℕ) → eqb (cond (eqb n 0) 255 (n - 1) - 15) 0 ≡ within 1 16 n
unfolding within
values-none zero = refl
values-none (suc n) =
    let k : suc n ≡ 0 → ⊥ = λ q. omega arith in
    rw (ne_eqb (suc n) 0 k, over_none, le-leb 1 (suc n) (omega arith))
    (same_bool (leb (suc n - 1) 15) (leb (suc n) 16)
    (λ e. let p : suc n - 1 ≤ 15 = leb-true (suc n - 1) 15 e in le-leb (suc n) 16 (omega arith))
    (λ e. let p : suc n ≤ 16 = leb-true (suc n) 16 e in le-leb (suc n - 1) 15 (omega arith)))

-- what a file has past its values, where it is equipped, and past its room
pub file_wrong : (c : Config) (counts : List ℕ) (f : ℕ) {x v n b o w q room : ℕ} → f < 32
    → get_or c.files f 0 ≡ x → get_or c.values f 0 ≡ v → get_or counts f 0 ≡ n
    → b ≡ cond (eqb v 0) 255 (v - 1) → o ≡ b - 15 → w ≡ cond (eqb x 0) 0 o → room ≡ cond (eqb x 0) 0 32 → q ≡ n - room
    → eqb (bit_or w q) 0 ≡ (file_valid c f && file_fits c (files_by counts) f)
unfolding file_valid file_fits has_file has
file_wrong c counts f {x} {v} {n} {b} {o} {w} {q} {room} l e g h p r s t u =
    rw (or_none w q, s, r, p, u, over_none n room, t, held_by counts f, e, g, h, lt-ltb f 32 l)
    (by_bool (eqb x 0) (λ z. rw z) (λ z. rw (z, values-none v)))

-- an equipped file is one of 32
file-low : (files : List ℕ) (f : ℕ) → has_file files f ≡ true → f < 32
unfolding has_file
file-low files f e = ltb-true f 32 (and_left (ltb f 32) (has files f) e)

-- fits asks of the files only how many records they hold
module _ (c : Config) (fs gs : Files) (same : (f : ℕ) → f < 32 → length (held_in fs f) ≡ length (held_in gs f)) where
  file-same : (f : ℕ) → f < 32 → file_fits c fs f ≡ file_fits c gs f
  unfolding file_fits
  file-same f h = rw (same f h)

  reply-same : (t : HistoryReply) → reply_fits c fs t ≡ reply_fits c gs t
  unfolding reply_fits
  reply-same t =
      by_bool (has_file c.files t.file.0)
      (λ e. rw (same t.file.0 (file-low c.files t.file.0 e)))
      (λ e. rw e)

  memory-same : (m : Option HistoryReply) → memory_fits c fs m ≡ memory_fits c gs m
  unfolding memory_fits
  memory-same None = refl
  memory-same (Some t) = reply-same t

  history-same : (m : Option HistoryReply) (ns ms : List ℕ) → history_fits c (record { memory = m; files = fs; dropped = ns }) ≡ history_fits c (record { memory = m; files = gs; dropped = ms })
  unfolding history_fits
  history-same m ns ms = rw (every-same (file_fits c fs) (file_fits c gs) 32 file-same, memory-same m)

-- the parts of the judgement, in their order
fits-parts : (c : Config) (lent : ℕ) (plans counts taken : List ℕ) (core : Core) (memory : Option HistoryReply) (port : Port)
    → fits_by c lent plans counts taken core memory port
    ≡ (valid_of c && (port_fits port && (core_fits c core && ((eqb lent c.block && every (samples_fit c (samples_by taken)) (up_from 0 most_means) && plans_fit plans)
    && history_fits c (record { memory = memory; files = files_by counts; dropped = [] })))))
unfolding fits_by kept_by fits areas_fit
fits-parts c lent plans counts taken core memory port = rw (length-replicate {A = ℕ} lent 0)

-- judged by the counts, a unit that holds so many records is judged as by its records
pub fits_by_lem : (c : Config) (lent : ℕ) (counts taken : List ℕ) (core : Core) (memory : Option HistoryReply) (port : Port) (areas : Areas) (fs : Files) (dropped : List ℕ)
    → length areas.block ≡ lent
    → ((p : ℕ) → p < most_means → length (samples_at areas.samples p) ≡ get_or taken p 0)
    → ((f : ℕ) → f < 32 → length (held_in fs f) ≡ get_or counts f 0)
    → fits_by c lent areas.plans counts taken core memory port
    ≡ fits c (record { inner = record { core = core; areas = areas; history = record { memory = memory; files = fs; dropped = dropped } }; port = port })
unfolding fits areas_fit
fits_by_lem c lent counts taken core memory port areas fs dropped e many same =
    rw (fits-parts, e, every-same (samples_fit c areas.samples) (samples_fit c (samples_by taken)) most_means (λ p h. unfold samples_fit in rw (many p h, sampled_by_lem taken p)), history-same c fs (files_by counts) (λ f h. same f h ∙ sym (held_by counts f)) memory dropped [])

-- ---- numbers in place of what they mean

-- four numbers as one, which is 0 where each of them is
abbrev four : ℕ → ℕ → ℕ → ℕ → ℕ
four a b c d = a + b * 0x10000 + c * 0x100000000 + d * 0x1000000000000

pub zeros_one : {a b c d w x y z : ℕ} → w ≡ a → x ≡ b → y ≡ c → z ≡ d
    → eqb (four w x y z) 0 ≡ (eqb a 0 && eqb b 0 && eqb c 0 && eqb d 0)
zeros_one {a} {b} {c} {d} {w} {x} {y} {z} p q r s =
    same_bool (eqb (four w x y z) 0) (eqb a 0 && eqb b 0 && eqb c 0 && eqb d 0)
    (λ e. let n : four w x y z ≡ 0 = eqb-true (four w x y z) 0 e in
    and_both (and_both (and_both (eq-eqb a 0 (omega arith)) (eq-eqb b 0 (omega arith))) (eq-eqb c 0 (omega arith))) (eq-eqb d 0 (omega arith)))
    (λ e. let three = and_left (eqb a 0 && eqb b 0 && eqb c 0) (eqb d 0) e in
    let two = and_left (eqb a 0 && eqb b 0) (eqb c 0) three in
    let k : a ≡ 0 = eqb-true a 0 (and_left (eqb a 0) (eqb b 0) two) in
    let l : b ≡ 0 = eqb-true b 0 (and_right (eqb a 0) (eqb b 0) two) in
    let m : c ≡ 0 = eqb-true c 0 (and_right (eqb a 0 && eqb b 0) (eqb c 0) three) in
    let n : d ≡ 0 = eqb-true d 0 (and_right (eqb a 0 && eqb b 0 && eqb c 0) (eqb d 0) e) in
    eq-eqb (four w x y z) 0 (omega arith))

-- a number up to a limit below 256 is a byte, up to that limit
pub byte_low : (k n : ℕ) → k < 256 → leb n k ≡ (ltb n 256 && leb (n % 256) k)
byte_low k n l =
    by_bool (ltb n 256) (λ e. rw (e, mod-eq_of_lt (ltb-true n 256 e)))
    (λ e. rw e (lt-leb n k (omega (arith, ltb-false n 256 e))))

bytes_first : (a b c d e x y z t : Bool)
    → (d && e && (a && x) && (b && y) && (c && z) && t) ≡ ((a && b && c) && ((d && e) && (x && (y && (z && t)))))
bytes_first true true true d e x y z t = simp and_assoc
bytes_first false b c d e x y z t = simp and-false
bytes_first true false c d e x y z t = simp and-false
bytes_first true true false d e x y z t = simp and-false

pub clock-judged : (ks : List ℕ)
    → (leb 1 (get_or ks 0 0) && leb (get_or ks 0 0) 366 && leb (get_or ks 1 0) 23 && leb (get_or ks 2 0) 59 && leb (get_or ks 3 0) 59 && leb (get_or ks 4 0) 999)
    ≡ clock_judged ks
unfolding clock_judged clock_fits clock_in within
clock-judged ks =
    rw (byte_low 23 (get_or ks 1 0) (omega arith), byte_low 59 (get_or ks 2 0) (omega arith), byte_low 59 (get_or ks 3 0) (omega arith), bytes_first)

-- ---- the judgement in the order of the code

turned : (a h w b m k u n x y z v p q l o t g s f r : Bool)
    → ((a && (h && (w && (b && (m && k))))) && ((u && (n && (x && (y && (z && (v && q)))))) && (p && ((t && (g && s)) && ((l && o) && (f && r))))))
    ≡ (((a && t) && ((h && g) && ((w && s) && (b && (k && p))))) && ((u && (n && (l && (x && (y && z))))) && ((v && f) && ((q && o) && (m && r)))))
turned true true true true true true true true true true true true true true true true t g s f r = simp and_assoc
turned false h w b m k u n x y z v p q l o t g s f r = refl
turned true false w b m k u n x y z v p q l o t g s f r = simp and-false
turned true true false b m k u n x y z v p q l o t g s f r = simp and-false
turned true true true false m k u n x y z v p q l o t g s f r = simp and-false
turned true true true true false k u n x y z v p q l o t g s f r = simp and-false
turned true true true true true false u n x y z v p q l o t g s f r = simp and-false
turned true true true true true true false n x y z v p q l o t g s f r = simp and-false
turned true true true true true true true false x y z v p q l o t g s f r = simp and-false
turned true true true true true true true true false y z v p q l o t g s f r = simp and-false
turned true true true true true true true true true false z v p q l o t g s f r = simp and-false
turned true true true true true true true true true true false v p q l o t g s f r = simp and-false
turned true true true true true true true true true true true false p q l o t g s f r = simp and-false
turned true true true true true true true true true true true true false q l o t g s f r = simp and-false
turned true true true true true true true true true true true true true false l o t g s f r = simp and-false
turned true true true true true true true true true true true true true true false o t g s f r = simp and-false
turned true true true true true true true true true true true true true true true false t g s f r = simp and-false

-- what is asked of the plans is taken out, and put in again before the memory
plans_out : (r v p k l n h : Bool) → (r && (v && (p && (k && ((l && n) && h))))) ≡ (n && (r && (v && (p && (k && (l && h))))))
plans_out r v p k l true h = rw (and-true l)
plans_out r v p k l false h = rw (and-false l, and-false k, and-false p, and-false v, and-false r)

plans_in : (n k g f s m : Bool) → (n && (k && (g && (f && (s && m))))) ≡ (k && (g && (f && (s && (n && m)))))
plans_in true k g f s m = refl
plans_in false k g f s m = rw (and-false s, and-false f, and-false g, and-false k)

pub in_turn : (c : Config) (lent : ℕ) (plans counts taken ks : List ℕ) → length ks ≡ 26
    → (readable ks && fits_by c lent plans counts taken (core_in ks) (memory_in ks) (port_in ks))
    ≡ (core_judged c ks && (config_judged c lent
    && ((every (file_valid c) (up_from 0 32) && every (file_fits c (files_by counts)) (up_from 0 32)) && (means_judged c taken && (plans_fit plans && memory_judged c counts ks)))))
unfolding means_judged valid_of core_fits history_fits core_in memory_in clock_judged hold_judged write_judged bits_judged memory_judged port_judged core_judged config_judged
in_turn c lent plans counts taken ks l = rw (fits-parts, plans_out, readable-parts ks l, turned, plans_in)

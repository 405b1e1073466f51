-- Groups of contacts in a unit's memory: whether any waits for a reply, and groups that start anew. Assumes nothing.
use Rattle.std.specs.Prelude.{◌≡◌, ℕ, zero, suc, ◌+◌, ◌*◌, ◌/◌, ◌%◌, ◌<◌, ◌≤◌, Bool, true, ◌&&◌, eqb, ltb, List, [], ◌∷◌, ◌++◌, length, get_or, set}
use mathlib.Core.Path.{refl, sym, ap, ◌∙◌}
use native.Mathlib.Omega.{arith}
use lib.Seq.{set-get_or}
use lib.Bits.{bit_or, or_shr}
use borrow.Author.Tests.{eqb-true, eq-eqb, ltb-true, lt-ltb}
use Rattle.chars.specs.Word.{Characters, word, word_at}
use Rattle.chars.specs.Gather.{gather, up_from, every}
use Rattle.model.specs.Config.{has, two_bit, none_in}
use Rattle.model.specs.Contacts.{group_in, anew, unmarked, untallied}
use Rattle.model.proofs.Conditions.{by_cond, and_left, and_right, every-up_from}
use Rattle.layout.specs.Unit.{Unit, unit_long, region_start, words_region, changed_region, unit_in, set_changed, set_contacts, put_word, put_changed}
use Rattle.layout.specs.Contacts.{markless, changeless, told, all_told, Anew}
use Rattle.layout.proofs.UnitLaws.{length-put_in, word_at_lem, changed_at, word-written, changed-written}
use Rattle.layout.proofs.UnitOne.{unit-one}
use Rattle.layout.proofs.RangeLaws.{same_bool}
use Rattle.layout.proofs.JudgedLaws.{every-start, every-next, every_both, or_none, none-start, none-next}

-- ---- whether any waits

-- a word below 256 has no mark
unmarked-low : (w : ℕ) → ltb w 256 ≡ eqb (w / 256) 0
unmarked-low w =
    same_bool (ltb w 256) (eqb (w / 256) 0)
    (λ e. let l : w < 256 = ltb-true w 256 e in eq-eqb (w / 256) 0 (omega arith))
    (λ e. let z : w / 256 ≡ 0 = eqb-true (w / 256) 0 e in lt-ltb w 256 (omega arith))

-- and so has what two words have joined where neither has
or_low : (x y : ℕ) → ltb (bit_or x y) 256 ≡ (ltb x 256 && ltb y 256)
or_low x y = rw (unmarked-low, unmarked-low x, unmarked-low y, or_shr x y 8, or_none)

pub markless-next : (u : List ℕ) (i x y : ℕ) → i < 32 → ltb x 256 ≡ every (markless (unit_in u).words) (up_from 0 i) → y ≡ word_at u (region_start words_region + 2 * i)
    → ltb (bit_or x y) 256 ≡ every (markless (unit_in u).words) (up_from 0 (i + 1))
unfolding markless
markless-next u i x y h p e = rw (or_low x y, p, unmarked-low y, e, every-next, word_at_lem u i (omega arith))

-- none of the groups' characters is other than 0
pub changeless-none : (u : List ℕ) (n : ℕ) → n ≤ 32 → none_in u (region_start changed_region) n ≡ every (changeless (unit_in u).changed) (up_from 0 n)
unfolding changeless
changeless-none u zero h = sym (none-start u (region_start changed_region)) ∙ every-start _
changeless-none u (suc n) h =
    let z : n + 1 ≡ suc n = omega arith in
    rw (← z, none-next, every-next, changeless-none u n (omega arith), changed_at u n (omega arith)) refl

pub each_start : (f : ℕ → Bool) → true ≡ every f (up_from 0 0)
each_start f = every-start f

pub each-done : (f : ℕ → Bool) {b : Bool} {i : ℕ} → b ≡ every f (up_from 0 i) → i ≡ 32 → b ≡ every f (up_from 0 32)
each-done f e q = rw q at e

pub told_both : (ws bs : List ℕ) {b d : Bool} → b ≡ every (markless ws) (up_from 0 32) → d ≡ every (changeless bs) (up_from 0 32) → (b && d) ≡ all_told ws bs
unfolding all_told told
told_both ws bs p q = rw (p, q) (sym (every_both (markless ws) (changeless bs) 32))

-- ---- groups that start anew

pub anew_append : (f : ℕ → ℕ) (gs hs xs : List ℕ) → anew f (gs ++ hs) xs ≡ anew f hs (anew f gs xs)
unfolding anew
anew_append f [] hs xs = refl
anew_append f (g ∷ gs) hs xs = anew_append f gs hs _

pub anew-none : (u : List ℕ) → Anew u u []
unfolding anew
anew-none u = record { means = refl; long = refl }

pub anew-then : {u v w gs hs : List ℕ} → Anew u v gs → Anew v w hs → Anew u w (gs ++ hs)
anew-then {gs = gs} {hs = hs} a b =
    record {
      means = b.means ∙ ap (λ (x : Unit). set_contacts x (anew unmarked hs x.words) (anew untallied hs x.changed)) a.means
          ∙ rw (anew_append unmarked gs hs, anew_append untallied gs hs);
      long = b.long ∙ a.long;
    }

-- one group
pub anew-one : (u : List ℕ) (g : ℕ) {w : List ℕ} → length u ≡ unit_long → g < 32
    → w ≡ put_changed (put_word u g (get_or (unit_in u).words g 0 % 256)) g 0 → Anew u w (g ∷ [])
unfolding anew unmarked untallied
anew-one u g long h e =
    let v = put_word u g (get_or (unit_in u).words g 0 % 256) in
    record {
      means = ap unit_in e ∙ changed-written v g 0 h
          ∙ ap (λ (x : Unit). set_changed x (set x.changed g 0)) (word-written u long g _ (omega arith));
      long = ap length e ∙ length-put_in v changed_region g (0 ∷ []) ∙ length-put_in u words_region (2 * g) (word _);
    }

-- where none waits, none changes
module _ (table ws bs : List ℕ) (all : all_told ws bs ≡ true) where
  group_told : (g : ℕ) → g < 32 → told ws bs g ≡ true
  unfolding all_told
  group_told g h = every-up_from (told ws bs) 0 32 all g (omega arith) (omega arith)

  words_same : (g : ℕ) → g < 32 → set ws g (unmarked (get_or ws g 0)) ≡ ws
  unfolding told markless changeless unmarked
  words_same g h =
      let z : get_or ws g 0 / 256 ≡ 0 = eqb-true _ _ (and_left _ (eqb (get_or bs g 0) 0) (group_told g h)) in
      let e : get_or ws g 0 % 256 ≡ get_or ws g 0 = omega arith in
      rw e (set-get_or ws g 0)

  changed-same : (g : ℕ) → g < 32 → set bs g (untallied (get_or bs g 0)) ≡ bs
  unfolding told markless changeless untallied
  changed-same g h =
      let z : get_or bs g 0 ≡ 0 = eqb-true _ _ (and_right (eqb (get_or ws g 0 / 256) 0) _ (group_told g h)) in
      ap (set bs g) (sym z) ∙ set-get_or bs g 0

  -- of an area that each single group leaves
  module _ (f : ℕ → ℕ) (xs : List ℕ) (same : (g : ℕ) → g < 32 → set xs g (f (get_or xs g 0)) ≡ xs) where
    one_same : (n : ℕ) → anew f (group_in table n) xs ≡ xs
    unfolding group_in anew two_bit
    one_same n =
        by_cond {A = List ℕ} (λ gs. anew f gs xs ≡ xs) (two_bit n && has table n)
        (λ e. same n (ltb-true n 32 (and_left _ (has table n) e))) (λ e. refl)

    each_same : (ns : List ℕ) → anew f (gather (group_in table) ns) xs ≡ xs
    unfolding gather anew
    each_same [] = refl
    each_same (n ∷ ns) = anew_append f (group_in table n) (gather (group_in table) ns) xs ∙ ap (anew f (gather (group_in table) ns)) (one_same n) ∙ each_same ns

pub anew-told : (u table ns : List ℕ) → all_told (unit_in u).words (unit_in u).changed ≡ true → Anew u u (gather (group_in table) ns)
anew-told u table ns e =
    let ws = (unit_in u).words in
    let bs = (unit_in u).changed in
    record {
      means = rw (each_same table ws bs e unmarked ws (words_same table ws bs e) ns, each_same table ws bs e untallied bs (changed-same table ws bs e) ns);
      long = refl;
    }

-- two memories of characters in which the same groups have started anew are the same
pub one-anew : (u v w gs : List ℕ) → length u ≡ unit_long → Characters v → Characters w → Anew u v gs → Anew u w gs → v ≡ w
one-anew u v w gs l p q a b = unit-one v w (a.long ∙ l) (b.long ∙ l) p q (a.means ∙ sym b.means)

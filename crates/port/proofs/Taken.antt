-- The port of a unit's memory, taken from there, kept in a local that is lent, and put back: the steps of `port::wait` and `port::hear`, over the logic. No proof
-- cites them: the check makes those of the two functions by itself.
--     lends_read, read_back    the memory behind the `&mut` is lent as a `&` for a lifetime of the call that reads it, and comes back
--     lends_port, port-back    the local is lent as a `&mut` for a lifetime of the call that changes it, and comes back at what lies there
--     goes_in, reads_in        what `layout::port_in` asks for, and what it says
--     goes_keep, gives_keep    what `layout::keep_port` asks for, and what it leaves of the memory, which is not needed again
-- Assumes `Logic`.
use mathlib.Core.Path.{◌≡◌, refl, ap}
use Prim.Native.Nat.{ℕ}
use mathlib.Core.List.{List, [], ◌∷◌}
use seplogic.Ra.Ura.{Ura}
use base.Fraction.{full_share}
use mir.Syntax.{named, w8}
use mir.Val.{Val, vunit, vptr}
use base.Logic.{SProp, ent, sep, ex, guard, via, snd∗, ex_e, id⊢}
use base.Fml.{GName, Lft, Share, Fml, ftrue, fsep, fat, flft, fdead, flent, fobor, fobs, fauth}
use prog.Memory.{Memory}
use prog.Routine.{Routine}
use types.Logic.{Logic, sem}
use contract.Monad.{Fun, fact}
use types.Kit.{‵, raw, some, later, ◌⊛◌, ◌$◌, ◌∵◌, !, qed, move, keep, use1, split, join, pick, fsplit, fsplit3, fjoin, fjoin3, fpick, fpack, feq_l, feq_i, check, frame, await, updating, now as at_once, show, done}
use types.Tokens.{lent_back}
use types.Mut.{open_ref, close_ref}
use types.SemTy.{Body}
use denote.RattleType.{RattleType}
use denote.Laws.{Is, shows}
use denote.Memory.{cell_at, part_at, part_of, mem}
use denote.Plain.{Nothing}
use denote.Builtin.{u8, Array}
use denote.Ref.{Bor, MutBor, MutRef, ShrRef}
use denote.Copied.{uint_Copied, Array-Copied}
use denote.Lend.{lends_ref, lends_free}
use denote.Steps.{only, owned, heard, nothing}
use denote.Struct.Steps.{spelt}
use denote.Struct.Laws as LL
use denote.Triple.Spec.{triple_of}
use denote.Triple.Statement.{Contract}
use denote.Triple.Clauses.{ensured, lasts}
use Rattle.model.specs.declared.Port.{Port}
use Rattle.model.specs.contracts.Port as T
use Rattle.model.proofs.Port.TheLaws as T'
use Rattle.layout.specs.Numbers.{port_in, put_port}
use Rattle.layout.specs.Unit.{numbers_in, Renumbered}
use Rattle.layout.proofs.UnitLaws.{unit_figure}
use Rattle.layout.specs.contracts.port_in as in-it
use Rattle.layout.specs.contracts.keep_port as keeps

-- a unit's memory
abbrev pub U : RattleType
U = Array u8 tt unit_figure

-- the machine value of a port
abbrev pub mach : Port → Val
mach h = LL.val T.the_type T'.the_laws h

module _ {M : Type 1} {𝓤 : Ura M} (𝓛 : Logic 𝓤) (at_mem : Memory → SProp 𝓤) (run : Routine → Fun 𝓤) where
  -- the two contracts that both walks cite
  abbrev pub In : Contract 𝓤
  In = triple_of 𝓛 in-it.signature (in-it.spec 𝓛 at_mem run)

  abbrev pub Keep : Contract 𝓤
  Keep = triple_of 𝓛 keeps.signature (keeps.spec 𝓛 at_mem run)

-- ---- the local
module _ {M : Type 1} {𝓤 : Ura M} (𝓛 : Logic 𝓤) (l : ℕ) (h : Port) where
  open 𝓛 use {H, A}

  port_lies : (v : Val) → ent 𝓤 (sep 𝓤 (sem 𝓛 (fat full_share T'.mir l 0 v)) (sem 𝓛 ((T.the_row).own_val h (v ∷ [])))) (sem 𝓛 ((mem T.the_row).own_at h l 0))
  unfolding part_of
  port_lies v =
      qed 𝓛 (‵ (fat full_share T'.mir l 0 v) ∷ ‵ ((T.the_row).own_val h (v ∷ [])) ∷ []) ∵ use1 𝓛 (‵ (cell_at full_share (T.the_row).mir (v ∷ []) l 0)) (𝓛.laws.at_raw full_share T'.mir l 0 v) $
      fjoin ! $ fpack ! (List Val) (λ us. fsep (cell_at full_share (T.the_row).mir us l 0) ((T.the_row).own_val h us)) (v ∷ []) $ done !

  pub lends_port : (v : Val) (μ : Lft) → ent 𝓤 (sep 𝓤 (sem 𝓛 (fat full_share T'.mir l 0 v)) (sem 𝓛 ((T.the_row).own_val h (v ∷ []))))
      (H.⇛ (ex 𝓤 (λ (δ : GName). sep 𝓤 (sem 𝓛 ((MutRef (named 0) μ T.the_row).own_val (record { ref_ptr = (l, 0); ghost_name = δ; now = h }) (vptr l 0 ∷ []))) (A.lent μ (Body (mem T.the_row) l 0 δ)))))
  lends_port v μ = via 𝓤 (sem 𝓛 ((mem T.the_row).own_at h l 0)) (port_lies v) (lends_ref 𝓛 T.the_row (named 0) μ h l 0)

  pub port-back : ent 𝓤 (sem 𝓛 ((mem T.the_row).own_at h l 0)) (sep 𝓤 (sem 𝓛 ((T.the_row).own_val h (mach h ∷ []))) (sem 𝓛 (fat full_share T'.mir l 0 (mach h))))
  unfolding part_of
  port-back =
      qed 𝓛 (‵ ((mem T.the_row).own_at h l 0) ∷ []) ∵ fpick ! (λ vs. fsplit ! $ spelt ! T.the_row (Is T.the_row) (shows 𝓛 T.the_row) (LL.vals T.the_type T'.the_laws) (LL.tells T.the_type T'.the_laws) full_share h vs l 0 $
      use1 𝓛 (‵ (fat full_share T'.mir l 0 (mach h))) (𝓛.laws.raw_at full_share T'.mir l 0 (mach h)) $ move ! (1 ∷ 0 ∷ []) $ done !)

-- ---- the memory, behind a `&mut` at κ under the name γ
module _ {M : Type 1} {𝓤 : Ura M} (𝓛 : Logic 𝓤) (κ : Lft) (q : Share) (b o : ℕ) (γ : GName) (u : List ℕ) where
  open 𝓛 use {H, A}

  abbrev at_name : GName → MutBor (List ℕ)
  at_name δ = record { ref_ptr = (b, o); ghost_name = δ; now = u }

  abbrev at_place : Bor (List ℕ)
  at_place = record { ref_ptr = (b, o); now = u }

  abbrev pub unit-own : Fml
  unit-own = (MutRef (named 0) κ U).own_val (at_name γ) (vptr b o ∷ [])

  abbrev pub read-own : Lft → Fml
  read-own ν = (ShrRef (named 0) ν U).own_val at_place (vptr b o ∷ [])

  -- what its holder keeps while it is read
  abbrev pub Read : Lft → Fml
  Read ν = fsep (flent ν (part_at U full_share u b o)) (fsep (fobor κ q (Body (mem U) b o γ)) (fsep (fobs γ (U.coded.code u)) (fauth γ (U.coded.code u))))

  pub lends_read : (ν : Lft) → ent 𝓤 (sep 𝓤 (sem 𝓛 unit-own) (A.lft κ q)) (H.⇛ (sep 𝓤 (sem 𝓛 (read-own ν)) (sem 𝓛 (Read ν))))
  lends_read ν =
      qed 𝓛 (‵ unit-own ∷ ‵ (flft κ q) ∷ []) ∵ updating ! $ fsplit3 ! $ feq_l ! (λ _. open_ref ! tt (mem U) $
      use1 𝓛 (later (‵ (read-own ν) ⊛ ‵ (flent ν (part_at U full_share u b o)))) (lends_free 𝓛 U (named 0) ν full_share u b o ((Array-Copied 𝓛 u8 (uint_Copied 𝓛 w8) tt unit_figure).lends full_share u b o)) $ await ! tt $ split ! $
      -- [the `&`; the way back; the open borrow; obs; auth]
      at_once ! $ frame ! $ move ! (2 ∷ 3 ∷ []) $ fjoin ! $ move ! (2 ∷ 0 ∷ []) $ fjoin ! $ move ! (1 ∷ 0 ∷ []) $ fjoin ! $ done !)

  pub read_back : (ν : Lft) → ent 𝓤 (sep 𝓤 (A.dead ν) (sem 𝓛 (Read ν))) (H.⇛ (sep 𝓤 (sem 𝓛 unit-own) (A.lft κ q)))
  read_back ν =
      qed 𝓛 (‵ (fdead ν) ∷ ‵ (Read ν) ∷ []) ∵ updating ! $ move ! (1 ∷ []) $ fsplit ! $ move ! (2 ∷ 0 ∷ []) $ lent_back ! tt $ move ! (1 ∷ []) $ fsplit3 ! $ move ! (3 ∷ 0 ∷ 1 ∷ 2 ∷ []) $
      close_ref ! tt (mem U) u $ at_once ! $ feq_i ! (List Val) (vptr b o ∷ []) (vptr b o ∷ []) refl $ fjoin3 ! $ done !

  module _ (at_mem : Memory → SProp 𝓤) (run : Routine → Fun 𝓤) where
    -- ---- `layout::port_in`, for a lifetime ν
    abbrev pub to_in : Lft → (In 𝓛 at_mem run).Ghost
    to_in ν = (((ν, tt), (full_share, tt), tt, (at_place, tt), (vptr b o ∷ [], tt)), tt)

    pub goes_in : (ν : Lft) → ent 𝓤 (sep 𝓤 (A.lft ν full_share) (sem 𝓛 (read-own ν))) ((In 𝓛 at_mem run).pre (to_in ν))
    goes_in ν =
        qed 𝓛 (‵ (flft ν full_share) ∷ ‵ (read-own ν) ∷ []) ∵ nothing ! $ move ! (1 ∷ 0 ∷ []) $ join ! $ nothing ! $ move ! (2 ∷ 0 ∷ []) $ fjoin ! $ move ! (1 ∷ 0 ∷ []) $ join ! $ frame ! $ done !

    pub reads_in : (ν : Lft) (r : Port) → ent 𝓤 (ensured 𝓛 in-it.ended (in-it.clauses 𝓛 at_mem run) (ν, tt) (at_place, tt) tt r) (fact 𝓤 (r ≡ port_in (numbers_in u)))
    reads_in ν r = ex_e 𝓤 _ (λ ws. snd∗ 𝓤 (sem 𝓛 (lasts in-it.ended (ν, tt) (at_place, tt) ws)) (fact 𝓤 (r ≡ port_in (numbers_in u))))

    -- ---- `layout::keep_port`, with the `&mut` itself
    module _ (h : Port) where
      abbrev pub to_keep : (Keep 𝓛 at_mem run).Ghost
      to_keep = (((κ, tt), (q, tt), tt, (at_name γ, (h, tt)), (vptr b o ∷ [], (mach h ∷ [], tt))), tt)

      pub goes_keep : Is T.the_row h (mach h ∷ []) → ent 𝓤 (sep 𝓤 (A.lft κ q) (sem 𝓛 unit-own)) ((Keep 𝓛 at_mem run).pre to_keep)
      goes_keep is =
          qed 𝓛 (‵ (flft κ q) ∷ ‵ unit-own ∷ []) ∵ nothing ! $ move ! (1 ∷ 0 ∷ []) $ join ! $ nothing ! $ owned ! T.the_row (Is T.the_row) (LL.makes T.the_type T'.the_plain 𝓛) h _ is $ fjoin ! $
          move ! (2 ∷ 0 ∷ []) $ fjoin ! $ move ! (1 ∷ 0 ∷ []) $ join ! $ frame ! $ done !

      abbrev pub Kept : Val → List ℕ → Type 0
      Kept v zs = (v ≡ vunit) × Renumbered u zs (put_port h (numbers_in u))

      pub gives_keep : (v : Val) → ent 𝓤 ((Keep 𝓛 at_mem run).post to_keep v) (H.⇛ (ex 𝓤 (λ (zs : List ℕ). guard 𝓤 (Kept v zs) (sep 𝓤 (A.lft κ q) (A.res γ (U.coded.code zs))))))
      gives_keep v =
          qed 𝓛 (raw ((Keep 𝓛 at_mem run).post to_keep v) ∷ []) ∵ updating ! $
          use1 𝓛 (later (some (λ (r : Unit {0}). ((‵ (flft κ q) ⊛ ‵ ftrue) ⊛ ‵ (Nothing.own_val r (v ∷ []))) ⊛ raw (ensured 𝓛 keeps.ended (keeps.clauses 𝓛 at_mem run) (κ, tt) (at_name γ, (h, tt)) tt r)))) (id⊢ 𝓤 _) $ await ! tt $ pick ! (λ r. split ! $ move ! (1 ∷ []) $
          use1 𝓛 (some (λ (ws : List ℕ × (Unit {0} × Unit {0})). ‵ (lasts keeps.ended (κ, tt) (at_name γ, (h, tt)) ws) ⊛ raw (fact 𝓤 (Renumbered u ws.0 (put_port h (numbers_in u)))))) (id⊢ 𝓤 _) $ pick ! (λ ws.
          split ! $ move ! (1 ∷ []) $ heard ! (Renumbered u ws.0 (put_port h (numbers_in u))) (λ e. fsplit ! $ move ! (2 ∷ []) $ split ! $ move ! (1 ∷ []) $ feq_l ! (λ z.
          -- [the token, and true; the last value; true]
          at_once ! $ show ! (λ (zs : List ℕ). guard 𝓤 (Kept v zs) (sep 𝓤 (A.lft κ q) (A.res γ (U.coded.code zs)))) ws.0 $ check ! (ap only z, e) $ split ! $ keep ! (0 ∷ 2 ∷ []) $ move ! (1 ∷ []) $ fsplit ! $ keep ! (2 ∷ 0 ∷ []) $ done !))))

-- What the characters of the bench configuration mean. Assumes nothing.
use mathlib.Core.Path.{◌≡◌, refl, ap, ◌∙◌}
use Prim.Native.Nat.{ℕ}
use mathlib.Core.List.{List}
use lib.ListN.{replicate}
use Rattle.chars.specs.Put.{put}
use Rattle.chars.specs.Word.{word, word_at}
use Rattle.model.specs.Bench.{bench_config}
use Rattle.layout.specs.Regions.{start_in, region_in}
use Rattle.layout.proofs.UnitLaws.{config_figure}
use Rattle.layout.specs.Unit.{words_in, config_from, config_given, name_unit, equip_input}

computed : config_given (equip_input (equip_input (name_unit (replicate config_figure 0) 1234) 0x30) 0x40) ≡ bench_config
unfolding put word word_at bench_config start_in region_in words_in config_from
computed = refl

pub bench_given : {a b r : List ℕ} → a ≡ name_unit (replicate config_figure 0) 1234 → b ≡ equip_input a 0x30 → r ≡ equip_input b 0x40 → config_given r ≡ bench_config
bench_given e f g = ap config_given (g ∙ ap (λ (l : List ℕ). equip_input l 0x40) (f ∙ ap (λ (l : List ℕ). equip_input l 0x30) e)) ∙ computed

-- Two ends of a call that meet its contract are equal: what each public function promises says everything. What a memory means says every
-- character of it (UnitOne). Assumes nothing.
use mathlib.Core.Path.{sym, ◌∙◌}
use Rattle.chars.specs.One.{One}
use Rattle.layout.specs.Unit.{unit_in}
use Rattle.layout.proofs.clock.clock_in.Reads as clock-in
use Rattle.layout.proofs.clock.keep_clock.Reads as keep-clock
use Rattle.layout.proofs.config.name_unit.Reads as name-unit
use Rattle.layout.proofs.config.equip_input.Reads as equip-input
use Rattle.layout.proofs.config.begin.Reads as begin
use Rattle.layout.proofs.core_part.core_in.Reads as core-in
use Rattle.layout.proofs.core_part.keep_core.Reads as keep-core
use Rattle.layout.proofs.equipment.number_of.Reads as number_of_lem
use Rattle.layout.proofs.equipment.length_of.Reads as length-of
use Rattle.layout.proofs.equipment.has_input.Reads as has-input
use Rattle.layout.proofs.equipment.has_output.Reads as has-output
use Rattle.layout.proofs.equipment.has_calculation.Reads as has-calculation
use Rattle.layout.proofs.files.has_file.Reads as has-file
use Rattle.layout.proofs.files.values_of.Reads as values_of
use Rattle.layout.proofs.files.count_of.Reads as count_of
use Rattle.layout.proofs.files.put_count.Reads as put_count
use Rattle.layout.proofs.files.keeps_oldest.Reads as keeps-oldest
use Rattle.layout.proofs.files.dropped_of.Reads as dropped-of
use Rattle.layout.proofs.files.put_dropped.Reads as put-dropped
use Rattle.layout.proofs.contacts.changed_of.Reads as changed-of
use Rattle.layout.proofs.contacts.put_changed.Reads as put-changed
use Rattle.layout.proofs.contacts.all_told.Reads as all_told
use Rattle.layout.proofs.means.analog_of.Reads as analog-of
use Rattle.layout.proofs.means.window_of.Reads as window-of
use Rattle.layout.proofs.means.place_of.Reads as place_of
use Rattle.layout.proofs.means.taken_of.Reads as Taken-of
use Rattle.layout.proofs.means.put_taken.Reads as put-taken
use Rattle.layout.proofs.means.window_start.Reads as window-start
use Rattle.layout.proofs.means.equipped_now.Reads as equipped-now
use Rattle.layout.proofs.judged.fits.Reads as fits
use Rattle.layout.proofs.told.Reads as told
use Rattle.layout.proofs.memory.dump_most.Reads as dump-most
use Rattle.layout.proofs.memory.memory_in.Reads as memory-in
use Rattle.layout.proofs.memory.keep_memory.Reads as keep-memory
use Rattle.layout.proofs.parts.word_of.Reads as word_of
use Rattle.layout.proofs.parts.put_word.Reads as put_word
use Rattle.layout.proofs.parts.value_of.Reads as value_of_lem
use Rattle.layout.proofs.parts.put_value.Reads as put-value
use Rattle.layout.proofs.parts.fixed_of.Reads as fixed_of
use Rattle.layout.proofs.parts.put_fixed.Reads as put-fixed
use Rattle.layout.proofs.plans.plans_of.Reads as plans-of
use Rattle.layout.proofs.plans.put_plans.Reads as put-plans
use Rattle.layout.proofs.port.mark_at.Reads as mark-at
use Rattle.layout.proofs.port.port_in.Reads as port-in
use Rattle.layout.proofs.port.keep_port.Reads as keep-port
use Rattle.layout.proofs.records.slots.Reads as slots
use Rattle.layout.proofs.records.base_of.Reads as base-of
use Rattle.layout.proofs.records.room_of.Reads as room_of
use Rattle.layout.proofs.records.room_asked.Reads as room-asked
use Rattle.layout.proofs.select.hold_kept.Reads as hold-kept
use Rattle.layout.proofs.select.keep_hold.Reads as keep-hold
use Rattle.layout.proofs.status.configure_in.Reads as configure-in
use Rattle.layout.proofs.status.error_in.Reads as error-in
use Rattle.layout.proofs.status.broadcast_in.Reads as broadcast-in
use Rattle.layout.proofs.status.keep_configure.Reads as keep-configure
use Rattle.layout.proofs.status.keep_error.Reads as keep-error
use Rattle.layout.proofs.status.keep_broadcast.Reads as keep-broadcast
use Rattle.layout.proofs.write.write_kept.Reads as write-Kept
use Rattle.layout.proofs.write.keep_write.Reads as keep-write

pub one-clock_in : One clock-in.Post (λ κ r s. r)
one-clock_in κ a x y s t p q = p ∙ sym q

pub one_keep_clock-unit : One keep-clock.Post (λ κ r s. unit_in s.0.now)
one_keep_clock-unit κ a x y s t p q = p.0.means ∙ sym q.0.means

pub one_name_unit-config : One name-unit.Post (λ κ r s. s.0.now)
one_name_unit-config κ a x y s t p q = p ∙ sym q

pub one_equip_input_config : One equip-input.Post (λ κ r s. s.0.now)
one_equip_input_config κ a x y s t p q = p ∙ sym q

pub one_begin_unit : One begin.Post (λ κ r s. s.0.now)
one_begin_unit κ a x y s t p q = p ∙ sym q

pub one-core_in : One core-in.Post (λ κ r s. r)
one-core_in κ a x y s t p q = p ∙ sym q

pub one_keep_core-unit : One keep-core.Post (λ κ r s. unit_in s.0.now)
one_keep_core-unit κ a x y s t p q = p.0.means ∙ sym q.0.means

pub one-number_of : One number_of_lem.Post (λ κ r s. r)
one-number_of κ a x y s t p q = p ∙ sym q

pub one-length_of : One length-of.Post (λ κ r s. r)
one-length_of κ a x y s t p q = p ∙ sym q

pub one-has_input : One has-input.Post (λ κ r s. r)
one-has_input κ a x y s t p q = p ∙ sym q

pub one-has-output : One has-output.Post (λ κ r s. r)
one-has-output κ a x y s t p q = p ∙ sym q

pub one-has_calculation : One has-calculation.Post (λ κ r s. r)
one-has_calculation κ a x y s t p q = p ∙ sym q

pub one-has-file : One has-file.Post (λ κ r s. r)
one-has-file κ a x y s t p q = p ∙ sym q

pub one-values_of : One values_of.Post (λ κ r s. r)
one-values_of κ a x y s t p q = p ∙ sym q

pub one_slots : One slots.Post (λ κ r s. r)
one_slots κ a x y s t p q = p.0 ∙ sym q.0

pub one-base_of : One base-of.Post (λ κ r s. r)
one-base_of κ a x y s t p q = p.0 ∙ sym q.0

pub one-room_of : One room_of.Post (λ κ r s. r)
one-room_of κ a x y s t p q = p ∙ sym q

pub one-room-asked : One room-asked.Post (λ κ r s. r)
one-room-asked κ a x y s t p q = p ∙ sym q

pub one-count_of : One count_of.Post (λ κ r s. r)
one-count_of κ a x y s t p q = p ∙ sym q

pub one-put-count-unit : One put_count.Post (λ κ r s. s.0.now)
one-put-count-unit κ a x y s t p q = p ∙ sym q

pub one-keeps-oldest : One keeps-oldest.Post (λ κ r s. r)
one-keeps-oldest κ a x y s t p q = p ∙ sym q

pub one-dropped_of : One dropped-of.Post (λ κ r s. r)
one-dropped_of κ a x y s t p q = p ∙ sym q

pub one-put-dropped-unit : One put-dropped.Post (λ κ r s. s.0.now)
one-put-dropped-unit κ a x y s t p q = p ∙ sym q

pub one-changed_of : One changed-of.Post (λ κ r s. r)
one-changed_of κ a x y s t p q = p ∙ sym q

pub one-put-changed-unit : One put-changed.Post (λ κ r s. s.0.now)
one-put-changed-unit κ a x y s t p q = p ∙ sym q

pub one-all-told : One all_told.Post (λ κ r s. r)
one-all-told κ a x y s t p q = p ∙ sym q

pub one_analog_of : One analog-of.Post (λ κ r s. r)
one_analog_of κ a x y s t p q = p ∙ sym q

pub one-window_of : One window-of.Post (λ κ r s. r)
one-window_of κ a x y s t p q = p ∙ sym q

pub one-place_of : One place_of.Post (λ κ r s. r)
one-place_of κ a x y s t p q = p.0 ∙ sym q.0

pub one-taken_of : One Taken-of.Post (λ κ r s. r)
one-taken_of κ a x y s t p q = p ∙ sym q

pub one-put-taken-unit : One put-taken.Post (λ κ r s. s.0.now)
one-put-taken-unit κ a x y s t p q = p ∙ sym q

pub one-window-start : One window-start.Post (λ κ r s. r)
one-window-start κ a x y s t p q = p.0 ∙ sym q.0

pub one-equipped_now_table : One equipped-now.Post (λ κ r s. s.1.0.now)
one-equipped_now_table κ a x y s t p q = p ∙ sym q

pub one-fits : One fits.Post (λ κ r s. r)
one-fits κ a x y s t p q = p ∙ sym q

pub one_told : One told.Post (λ κ r s. r)
one_told κ a x y s t p q = p ∙ sym q

pub one-dump-most : One dump-most.Post (λ κ r s. r)
one-dump-most κ a x y s t p q = p ∙ sym q

pub one-memory_in : One memory-in.Post (λ κ r s. r)
one-memory_in κ a x y s t p q = p ∙ sym q

pub one_keep_memory-unit : One keep-memory.Post (λ κ r s. unit_in s.0.now)
one_keep_memory-unit κ a x y s t p q = p.0.means ∙ sym q.0.means

pub one-word_of : One word_of.Post (λ κ r s. r)
one-word_of κ a x y s t p q = p ∙ sym q

pub one-put-word-unit : One put_word.Post (λ κ r s. s.0.now)
one-put-word-unit κ a x y s t p q = p ∙ sym q

pub one-value_of : One value_of_lem.Post (λ κ r s. r)
one-value_of κ a x y s t p q = p ∙ sym q

pub one-put-value-unit : One put-value.Post (λ κ r s. s.0.now)
one-put-value-unit κ a x y s t p q = p ∙ sym q

pub one-fixed_of : One fixed_of.Post (λ κ r s. r.now)
one-fixed_of κ a x y s t p q = p ∙ sym q

pub one-put-fixed-unit : One put-fixed.Post (λ κ r s. s.0.now)
one-put-fixed-unit κ a x y s t p q = p ∙ sym q

pub one-plans_of : One plans-of.Post (λ κ r s. r.now)
one-plans_of κ a x y s t p q = p ∙ sym q

pub one-put-plans-unit : One put-plans.Post (λ κ r s. s.0.now)
one-put-plans-unit κ a x y s t p q = p ∙ sym q

pub one-mark_at : One mark-at.Post (λ κ r s. r)
one-mark_at κ a x y s t p q = p ∙ sym q

pub one-port_in : One port-in.Post (λ κ r s. r)
one-port_in κ a x y s t p q = p ∙ sym q

pub one_keep_port-unit : One keep-port.Post (λ κ r s. unit_in s.0.now)
one_keep_port-unit κ a x y s t p q = p.means ∙ sym q.means

pub one-hold-kept : One hold-kept.Post (λ κ r s. r)
one-hold-kept κ a x y s t p q = p ∙ sym q

pub one_keep_hold-unit : One keep-hold.Post (λ κ r s. unit_in s.0.now)
one_keep_hold-unit κ a x y s t p q = p.0.means ∙ sym q.0.means

pub one_configure_in : One configure-in.Post (λ κ r s. r)
one_configure_in κ a x y s t p q = p ∙ sym q

pub one_error_in : One error-in.Post (λ κ r s. r)
one_error_in κ a x y s t p q = p ∙ sym q

pub one_broadcast_in : One broadcast-in.Post (λ κ r s. r)
one_broadcast_in κ a x y s t p q = p ∙ sym q

pub one_keep_configure_unit : One keep-configure.Post (λ κ r s. unit_in s.0.now)
one_keep_configure_unit κ a x y s t p q = p.means ∙ sym q.means

pub one_keep_error_unit : One keep-error.Post (λ κ r s. unit_in s.0.now)
one_keep_error_unit κ a x y s t p q = p.means ∙ sym q.means

pub one_keep_broadcast_unit : One keep-broadcast.Post (λ κ r s. unit_in s.0.now)
one_keep_broadcast_unit κ a x y s t p q = p.means ∙ sym q.means

pub one-write-kept : One write-Kept.Post (λ κ r s. r)
one-write-kept κ a x y s t p q = p ∙ sym q

pub one_keep_write-unit : One keep-write.Post (λ κ r s. unit_in s.0.now)
one_keep_write-unit κ a x y s t p q = p.0.means ∙ sym q.0.means

-- The frames that a filter asks are frames of its inputs.
use Rattle.std.proofs.Common.{length, arith}
use Rattle.std.proofs.lemmas.List.Elements.{All-nil}
use Rattle.clip_term.specs.Refusals.{info_at}
use Rattle.clip_term.specs.Time.{time_inputs, time_lists, frame_at, from_input, field_numbers}
use Rattle.clip_term.specs.Terms.{source, plain, time, space, joined, soft, fields, choice, IsAsked, AsksInRange}
use Rattle.clip_term.proofs.PassedLemmas.{both}
use Rattle.clip_term.proofs.SeenLemmas.{one_asked, all_asked, each_number}
use Rattle.clip_term.proofs.TimeFacts.{time_facts}
use Rattle.clip_term.proofs.SoftFacts.{soft_facts}

pub asks_in_range : AsksInRange
asks_in_range (source name number info) infos n sound lawful = All-nil (IsAsked infos)
asks_in_range (plain info colour) infos n sound lawful = All-nil (IsAsked infos)
asks_in_range (time op) infos n sound lawful =
    one_asked infos lawful (frame_at op (info_at infos 0) infos n) ((time_facts op).asked infos n (both (time_inputs op (length infos)) (time_lists op) sound).0)
asks_in_range (space op) infos n sound lawful = one_asked infos lawful (from_input 0 n) (omega arith)
asks_in_range (joined op) infos n sound lawful = all_asked infos lawful (λ i. from_input i n) 0 (length infos) (λ i h. omega arith)
asks_in_range (soft op) infos n sound lawful = let one = sound.0 in (soft_facts op).asked infos n lawful (omega arith)
asks_in_range (fields op) infos n sound lawful = each_number infos (field_numbers op n) lawful (omega arith)
asks_in_range (choice op) infos n sound lawful = all_asked infos lawful (λ i. from_input i n) 0 (length infos) (λ i h. omega arith)

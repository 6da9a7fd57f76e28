-- The marked examples come out as 01 says, by computing.
use mathlib.Core.Path.{◌≡◌, refl}
use Rattle.rows.specs.Words.{all, any, first, fails, build, same_at, same, zero_at, zeros}
use Rattle.rows.specs.Rows.{part, put, copies, each_row}
use Rattle.rows.specs.Numbers.{low_first, low_bytes}
use Rattle.terms.specs.Strings.{string_at, legal, key, same_string, normal}
use Rattle.terms.specs.Names.{pads, keeping, trimmed, same_name}
use Rattle.frames.specs.Table.{frame_table, length_in, frame_length, carries_address}
use Rattle.frames.specs.Requests.{plain}
use Rattle.frames.specs.Reading.{refusal_of, address_in, named_in, login_in, string_request, request_in}
use Rattle.site.specs.Layout.{users, user_offset, partitions, partition_offset, name_at, password_at, row_at, spare_at}
use Rattle.site.specs.Rules.{good_header, named_at, name_alone, tracks, sectors, ranged, numbered, partition_numbered, number_alone, meet, overlap, partitions_overlap, sound, apart, good_partition, good_site}
use Rattle.site.specs.Faults.{fault_part, fault_row, breach_number, fault_breach, breaks, breach_at, first_user, first_partition, first_fault}
use Rattle.site.specs.Found.{user_is, has_user, index_of_number}
use Rattle.site.specs.Places.{inside, place_on, refused, placed_on, placed_in}
use Rattle.who.specs.Records.{flag, bytes_of, station_of, flagged}
use Rattle.who.specs.Good.{good_counts, plain as plain_station, good_station, good_from, good_row, is_row, stations_of, good_records}
use Rattle.who.specs.Logins.{logged_in, has_serial, free_number, lowest_number, logged_in_as, after_login, after_logout, fresh_records}
use Rattle.locks.specs.Row.{owner, row_of, freed}
use Rattle.locks.specs.Table.{owner_at, held_at, lowest_free, is_held, is_own, lock_status, lock_table, unlocks as frees_lock, unlock_status, unlock_table, cleared_table}
use Rattle.locks.specs.Good.{sound_row, sound_at, sound_rows, good_locks, fresh_locks}
use Rattle.terms.specs.Tables.{is_free, string_in, holds, row_in, row_free, row_string, row_holds, row_alone}
use Rattle.master.specs.Tables.{good_tables}
use Rattle.master.specs.Refusals.{unknown, misplaced, src_differs, place_refusal, frame_tests, frame_refusal, refusal}
use Rattle.master.specs.Answers.{fault_told}
use Rattle.master.specs.Effects.{unless}
use Rattle.master.specs.Frames.{place_told, logout_effect, logouts_below, excepted, starts_again, old_logouts, number_given, name_found, login_effect, effect_of, request_effect, refusal_told, frame_effect}
use Rattle.who.specs.Turns.{is_due, misses_after, slow_after, is_out}
use Rattle.master.specs.Polls.{turn_refusal, due_now, out_now, station_turn, station_at, poll_refusal, poll_effect}
use Rattle.examples.specs.Play.{played, said, all_played, all_said}
use Rattle.examples.specs.Marked.{partition, header, empty, one, two, reads, locks, unlocks, logs_in, string, used, fresh, silent, marked}

pub marked_pass : all_played marked ≡ all_said marked
unfolding all any first fails build same_at same zero_at zeros part put copies each_row low_first low_bytes string_at legal key same_string normal frame_table length_in frame_length carries_address plain refusal_of address_in named_in login_in string_request request_in users user_offset partitions partition_offset name_at password_at row_at spare_at good_header pads keeping trimmed same_name named_at name_alone tracks sectors ranged numbered partition_numbered number_alone meet overlap partitions_overlap sound apart good_partition good_site fault_part fault_row breach_number fault_breach breaks breach_at first_user first_partition first_fault fault_told refusal_told user_is has_user index_of_number inside place_on refused placed_on placed_in flag bytes_of station_of flagged good_counts plain_station good_station good_from good_row is_row stations_of good_records logged_in has_serial free_number lowest_number logged_in_as after_login after_logout fresh_records owner is_free string_in row_of holds row_in row_free row_string row_holds row_alone freed owner_at held_at lowest_free is_held is_own lock_status lock_table frees_lock unlock_status unlock_table cleared_table sound_row sound_at sound_rows good_locks fresh_locks good_tables unknown misplaced src_differs place_refusal frame_tests frame_refusal refusal place_told logout_effect logouts_below excepted starts_again old_logouts number_given name_found login_effect effect_of request_effect frame_effect unless is_due misses_after slow_after is_out turn_refusal due_now out_now station_turn station_at poll_refusal poll_effect played said all_played all_said partition header empty one two reads locks unlocks logs_in string used fresh silent marked
marked_pass = refl

-- The story and the second run are answered as they say, by computing.
use mathlib.Core.Path.{◌≡◌, refl}
use mathlib.Core.Bool.{true, false}
use mathlib.Core.List.{[], ◌∷◌}
use Rattle.rows.specs.Words.{all, any, first, build, same_at, same, zero_at, zeros}
use Rattle.rows.specs.Rows.{part, put, copies, each_row}
use Rattle.rows.specs.Numbers.{low_first, low_bytes}
use Rattle.terms.specs.Strings.{string_at, legal, key, same_string, normal}
use Rattle.frames.specs.Table.{frame_table, length_in, frame_length, carries_address}
use Rattle.frames.specs.Requests.{plain}
use Rattle.frames.specs.Reading.{refusal_of, address_in, named_in, login_in, string_request, request_in}
use Rattle.site.specs.Layout.{users, user_offset, partitions, partition_offset, name_at, password_at, row_at, spare_at}
use Rattle.site.specs.Rules.{good_header, named_at, name_alone, tracks, sectors, ranged, numbered, partition_numbered, number_alone, meet, overlap, partitions_overlap, sound, apart, good_partition, good_site}
use Rattle.site.specs.Found.{user_is, has_user, index_of_number}
use Rattle.who.specs.Records.{flag, bytes_of, station_of, flagged}
use Rattle.who.specs.Good.{good_counts, plain as plain_station, good_station, good_from, good_row, is_row, stations_of, good_records}
use Rattle.who.specs.Logins.{logged_in, has_serial, free_number, lowest_number, logged_in_as, after_login, after_logout, fresh_records}
use Rattle.locks.specs.Row.{owner, row_of, freed}
use Rattle.locks.specs.Table.{owner_at, held_at, lowest_free, is_held, is_own, lock_status, lock_table, unlocks, unlock_status, unlock_table, cleared_table}
use Rattle.locks.specs.Good.{sound_row, sound_at, sound_rows, good_locks, fresh_locks}
use Rattle.terms.specs.Tables.{is_free, string_in, holds, row_in, row_free, row_string, row_holds, row_alone}
use Rattle.master.specs.Tables.{good_tables}
use Rattle.master.specs.Refusals.{unknown, misplaced, src_differs, place_refusal, frame_tests, frame_refusal, refusal}
use Rattle.master.specs.Effects.{unless}
use Rattle.master.specs.Frames.{place_told, logout_effect, logouts_below, excepted, starts_again, old_logouts, number_given, name_found, login_effect, effect_of, request_effect, refusal_told, frame_effect}
use Rattle.station.specs.State.{list_of, wait_of, is_listed, place_of, listed, is_full, added, struck_at, code_in, asked_in}
use Rattle.station.specs.Good.{good_place, good_at as good_place_at, in_front, good_list, good_wait, good_state}
use Rattle.station.specs.Asks.{waits, ask_refusal, struck, awaited, after_lock, after_unlock, after_clear, fresh_state, frame_awaited, send_refusal, sent_of, buffer_after}
use Rattle.station.specs.Replies.{fits, grants, carries_length, adds, reply_refusal, after_reply}
use Rattle.exchange.specs.Runs.{effect, tables, answer_in}
use Rattle.exchange.specs.Following.{sent}
use Rattle.exchange.specs.Promise.{lists}
use Rattle.exchange.specs.Story.{A, B, site, login, logout, buffer, asked, replied, locks_A, locks_B, unlocks_A, one_locks, one_holds, one_unlocks, one_free, one_locks_B, one_holds_B, one_clears, one_empty, two_locks, two_denied, two_again, two_holds, from, unlock, logins, one_has_it, two_has_it, one_has_none, one_leaves, answers_in, said}
use Rattle.exchange.specs.Reset.{clerk, has_A, asks_B, has_B, one_alone, clerk_has_it, clerk_again, one_takes_it, clerk_has_B, clerk_moves, clerk_has_B_again, too_late, said_again}

pub story_told : answers_in one_leaves ≡ said
unfolding all any first build same_at same zero_at zeros part put copies each_row low_first low_bytes string_at legal key same_string normal frame_table length_in frame_length carries_address plain refusal_of address_in named_in login_in string_request request_in users user_offset partitions partition_offset name_at password_at row_at spare_at good_header named_at name_alone tracks sectors ranged numbered partition_numbered number_alone meet overlap partitions_overlap sound apart good_partition good_site user_is has_user index_of_number flag bytes_of station_of flagged good_counts plain_station good_station good_from good_row is_row stations_of good_records logged_in has_serial free_number lowest_number logged_in_as after_login after_logout fresh_records owner is_free string_in row_of holds row_in row_free row_string row_holds row_alone freed owner_at held_at lowest_free is_held is_own lock_status lock_table unlocks unlock_status unlock_table cleared_table sound_row sound_at sound_rows good_locks fresh_locks good_tables unknown misplaced src_differs place_refusal frame_tests frame_refusal refusal place_told logout_effect logouts_below excepted starts_again old_logouts number_given name_found login_effect effect_of request_effect frame_effect unless list_of wait_of is_listed place_of listed is_full added struck_at code_in asked_in good_place good_place_at in_front good_list good_wait good_state waits ask_refusal struck awaited after_lock after_unlock after_clear fresh_state frame_awaited send_refusal sent_of buffer_after fits grants carries_length adds reply_refusal after_reply effect tables answer_in sent A B site login logout buffer asked replied locks_A locks_B unlocks_A one_locks one_holds one_unlocks one_free one_locks_B one_holds_B one_clears one_empty two_locks two_denied two_again two_holds from unlock logins one_has_it two_has_it one_has_none one_leaves answers_in said
story_told = refl

-- the second run; and that the clerk's logins spare 1, who has another serial
pub reset_told : (answers_in too_late ≡ said_again) × (starts_again (request_in clerk).serial (tables one_alone).records 1 ≡ false) × (starts_again (request_in clerk).serial (tables clerk_has_it).records 1 ≡ false)
unfolding all any first build same_at same zero_at zeros part put copies each_row low_first low_bytes string_at legal key same_string normal frame_table length_in frame_length carries_address plain refusal_of address_in named_in login_in string_request request_in users user_offset partitions partition_offset name_at password_at row_at spare_at good_header named_at name_alone tracks sectors ranged numbered partition_numbered number_alone meet overlap partitions_overlap sound apart good_partition good_site user_is has_user index_of_number flag bytes_of station_of flagged good_counts plain_station good_station good_from good_row is_row stations_of good_records logged_in has_serial free_number lowest_number logged_in_as after_login after_logout fresh_records owner is_free string_in row_of holds row_in row_free row_string row_holds row_alone freed owner_at held_at lowest_free is_held is_own lock_status lock_table unlocks unlock_status unlock_table cleared_table sound_row sound_at sound_rows good_locks fresh_locks good_tables unknown misplaced src_differs place_refusal frame_tests frame_refusal refusal place_told logout_effect logouts_below excepted starts_again old_logouts number_given name_found login_effect effect_of request_effect refusal_told frame_effect unless list_of wait_of is_listed place_of listed is_full added struck_at code_in asked_in good_place good_place_at in_front good_list good_wait good_state waits ask_refusal struck awaited after_lock after_unlock after_clear fresh_state frame_awaited send_refusal sent_of buffer_after fits grants carries_length adds reply_refusal after_reply effect tables answer_in sent A B site login logout buffer asked replied locks_A locks_B one_locks from answers_in clerk asks_B one_alone clerk_has_it clerk_again one_takes_it clerk_has_B clerk_moves clerk_has_B_again too_late said_again
reset_told = (refl, refl, refl)

-- who lists "A" on the way: 1 after the reply 81, 2 not after 01, 1 no more after its unlock, and then 2; 1 lists "B", and after its
-- clear no more; the clerk lists "A", and later "B"
pub story_lists : (lists one_holds A ∷ lists two_denied A ∷ lists one_free A ∷ lists two_holds A ∷ lists one_holds_B B ∷ lists one_empty B ∷ lists has_A A ∷ lists has_B B ∷ []) ≡ (true ∷ false ∷ false ∷ true ∷ true ∷ false ∷ true ∷ true ∷ [])
unfolding all any first same_at same zero_at zeros part put string_at legal key same_string normal is_free string_in holds row_in row_free row_string row_holds row_alone list_of wait_of is_listed place_of listed is_full added struck_at code_in asked_in good_place good_place_at in_front good_list good_wait good_state waits ask_refusal struck awaited after_lock after_unlock after_clear fresh_state fits grants carries_length adds reply_refusal after_reply A B asked replied locks_A locks_B unlocks_A one_locks one_holds one_unlocks one_free one_locks_B one_holds_B one_clears one_empty two_locks two_denied two_again two_holds has_A asks_B has_B lists
story_lists = refl

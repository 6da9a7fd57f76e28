use Rattle.master.specs.Frames.{logout_effect, name_found, login_effect, assignable, assign_answer, request_effect, effect_of}
use Rattle.master.proofs.TableLaws.{records_good}
use Rattle.master.proofs.LogoutLaws.{old_cleared}
use Rattle.master.specs.Answers.{told}
use Rattle.frames.specs.Writing.{code_of}
use mathlib.Core.Path.{refl}
use Rattle.master.proofs.commands.perform.Goals as goal

pub log_in-requires : goal.log_in-requires
log_in-requires c =
    rw c.log_old_out.ensures.records (records_good _ _ (old_cleared _ _ _ c.requires.records_value).tables)

pub log_out-requires : goal.log_out-requires
unfolding code_of
log_out-requires c =
    (records_good _ _ c.requires.records_value, c.requires.number_lt_numbers (rw c.in-Logout.is))

pub returns-in-Acknowledge : goal.returns-in-Acknowledge
unfolding told request_effect effect_of
returns-in-Acknowledge c = rw c.in-Acknowledge.is (record { answer = refl; locks = refl; records = refl })

pub returns-in-Read : goal.returns-in-Read
unfolding request_effect effect_of
returns-in-Read c = rw c.in-Read.is (record { answer = c.place.ensures; locks = refl; records = refl })

pub returns-in-Write : goal.returns-in-Write
unfolding request_effect effect_of
returns-in-Write c = rw c.in-Write.is (record { answer = c.place-in-Write.ensures; locks = refl; records = refl })

pub returns-in-Login : goal.returns-in-Login
unfolding request_effect effect_of login_effect told name_found
returns-in-Login c =
    let out = c.log_old_out.ensures in
    rw (c.in-Login.is, ← out.locks, ← out.records) (c.log_in.ensures _)

pub returns-in-Assign : goal.returns-in-Assign
unfolding request_effect effect_of assign_answer assignable
returns-in-Assign c = rw c.in-Assign.is (record { answer = c.assign.ensures; locks = refl; records = refl })

pub returns-in-Lock : goal.returns-in-Lock
unfolding told request_effect effect_of
returns-in-Lock c = rw c.in-Lock.is (record { answer = rw c.lock.ensures.answer; locks = c.lock.ensures.left; records = refl })

pub returns-in-Unlock : goal.returns-in-Unlock
unfolding told request_effect effect_of
returns-in-Unlock c = rw c.in-Unlock.is (record { answer = rw c.unlock.ensures.answer; locks = c.unlock.ensures.left; records = refl })

pub returns-in-Clear : goal.returns-in-Clear
unfolding told request_effect effect_of
returns-in-Clear c = rw c.in-Clear.is (record { answer = refl; locks = c.free_all.ensures; records = refl })

pub returns-in-Logout : goal.returns-in-Logout
unfolding told request_effect effect_of logout_effect
returns-in-Logout c = rw c.in-Logout.is (record { answer = refl; locks = c.log_out.ensures.locks; records = c.log_out.ensures.records })

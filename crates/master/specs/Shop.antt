-- The promise to the shop (02, Req 02): what logins leave, from any tables. Where a login is given a number it was not refused, so the
-- tables were good.
use Rattle.std.specs.Prelude.{ℕ, ◌≤◌, ◌≡◌, true, false, List, eqb}
use Rattle.rows.specs.Words.{zeros}
use Rattle.terms.specs.declared.LockString.{LockString}
use Rattle.frames.specs.declared.Request.{Request}
use Rattle.frames.specs.declared.Command.TheVariants.{Login}
use Rattle.frames.specs.Table.{LOGIN}
use Rattle.frames.specs.Reading.{code, request_in}
use Rattle.who.specs.Logins.{has_serial}
use Rattle.locks.specs.Holding.{has}
use Rattle.master.specs.Refusals.{ANYBODY, refusal}
use Rattle.master.specs.Frames.{login_effect, effect_of, frame_effect}
use Rattle.master.specs.Ends.{gives, ends}

-- the frame f is a login with a serial that is not 00 00 00 00, and is given the number k
pub record StartsAs (k : ℕ) (f s t w : List ℕ) : Type 0 where
  pub not_zero : zeros (request_in f).serial ≡ false
  pub number : gives (frame_effect ANYBODY f s t w).tells k ≡ true

pub record Shop : Type 0 where
  -- exactly that number has the serial
  pub one : {k : ℕ} {f s t w : List ℕ} → StartsAs k f s t w → (m : ℕ) → has_serial (frame_effect ANYBODY f s t w).records (request_in f).serial m ≡ eqb m k
  -- neither it nor any number that had the serial before holds a lock
  pub new_free : {k : ℕ} {f s t w : List ℕ} → StartsAs k f s t w → (x : LockString) → has (frame_effect ANYBODY f s t w).locks k x ≡ false
  pub old_free : {k : ℕ} {f s t w : List ℕ} → StartsAs k f s t w → (m : ℕ) → has_serial w (request_in f).serial m ≡ true
      → (x : LockString) → has (frame_effect ANYBODY f s t w).locks m x ≡ false
  -- the station under each of those numbers is ended, also where the number is given again; the number given is that or a lower one
  pub old_ended : {k : ℕ} {f s t w : List ℕ} → StartsAs k f s t w → (m : ℕ) → has_serial w (request_in f).serial m ≡ true → ends (frame_effect ANYBODY f s t w) m ≡ true
  pub old_or_lower : {k : ℕ} {f s t w : List ℕ} → StartsAs k f s t w → (m : ℕ) → has_serial w (request_in f).serial m ≡ true → k ≤ m
  -- where a number has the serial, a login with it that is not refused is given a number, with all 63 in use too
  pub always : (f s t w : List ℕ) → code f ≡ LOGIN → refusal ANYBODY f s t w ≡ 0 → zeros (request_in f).serial ≡ false → (m : ℕ) → has_serial w (request_in f).serial m ≡ true
      → (k : ℕ) × (gives (frame_effect ANYBODY f s t w).tells k ≡ true)
  -- a frame at 253 that is given no number, refused or not, changes nothing
  pub none_given : (f s t w : List ℕ) → ((k : ℕ) → gives (frame_effect ANYBODY f s t w).tells k ≡ false)
      → ((frame_effect ANYBODY f s t w).locks ≡ t) × ((frame_effect ANYBODY f s t w).records ≡ w)
  -- with serial 00 00 00 00 a login is 01's
  pub zero : (product : ℕ) (q : Request) (n : ℕ) (s t w : List ℕ) → zeros q.serial ≡ true → effect_of (Login product) q n s t w ≡ login_effect q product s t w

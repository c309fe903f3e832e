-- Reply, silence.
-- Assumes nothing.
use Rattle.std.specs.Prelude.{ℕ, ◌+◌, ◌-◌, ◌^◌, max, Bool, cond, not, ◌&&◌, List, [], ◌∷◌, ◌++◌, eqb, ltb}
use Rattle.systems.specs.Set.{member}
use Rattle.model.specs.Kinds as kind
use Rattle.model.specs.Retries.{used, with_used}
use Rattle.model.specs.Sound.{yes}
use Rattle.model.specs.Table.{put}
use Rattle.model.specs.Versions.{recast}
use Rattle.model.specs.Given.{Result, accept}
use Rattle.model.specs.Tray.{download_to}
use Rattle.model.specs.Closing.{settled, settles, settling_told}
use Rattle.model.specs.declared.Broadcast.{Broadcast}
use Rattle.model.specs.declared.Event.{Event}
use Rattle.model.specs.declared.Version.{Version}
use Rattle.model.specs.declared.Message.{Message}

-- the Local SMS that replies, or is silent
abbrev pub answering : Event → ℕ
answering e = cond (eqb e.kind kind.reply) e.sender e.other

-- in waiting [W1]
abbrev pub awaited : Event → Version → Bool
awaited e v = member v.cast.waiting (answering e)

-- a silence with fewer than R retries used asks again [W2]
unfoldable pub again : ℕ → Event → Broadcast → Bool
again most e c = eqb e.kind kind.silence && ltb (used c.retries (answering e)) most

abbrev pub succeeds : Event → Bool
succeeds e = eqb e.kind kind.reply && eqb e.mark yes

-- System p, which has used d retries, is asked again, or leaves the waiting with its retries: to the confirmed, or to the failed. [W1, W2]
abbrev pub moves : Bool → Bool → ℕ → ℕ → Broadcast → Broadcast
moves asks_again success p d c = record {
  purpose = c.purpose;
  start = c.start;
  confirmed = cond (not asks_again && success) (c.confirmed + 2 ^ p) c.confirmed;
  waiting = cond asks_again c.waiting (c.waiting - 2 ^ p);
  failed = cond (not asks_again && not success) (c.failed + 2 ^ p) c.failed;
  retries = with_used c.retries p (cond asks_again (d + 1) 0);
}

unfoldable pub moved : ℕ → Event → Broadcast → Broadcast
moved most e c = moves (again most e c) (succeeds e) (answering e) (used c.retries (answering e)) c

-- 11 and 12 raise the stamp to their time if later. [R3]
unfoldable pub heard : ℕ → Event → Version → Version
heard most e v = recast v v.status (max v.stamp e.time) v.live v.new (moved most e v.cast)

-- the download again [Y5]
unfoldable pub asked_again : ℕ → Event → Version → List Message
asked_again most e v = cond (again most e v.cast) (download_to v (answering e) ∷ []) []

unfoldable pub answers : ℕ → Event → Version → List Version → Result
answers most e v others =
    accept (asked_again most e v ++ settling_told (heard most e v)) (put (settled (heard most e v)) ∷ settles (heard most e v) others)

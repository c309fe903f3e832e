-- The clauses of a sound version in the groups in which the code asks them.
-- Assumes nothing.
use Rattle.std.specs.Prelude.{◌^◌, Bool, ◌&&◌, ltb}
use Rattle.model.specs.declared.Version.{Version}
use Rattle.model.specs.Numbers.{ten_digits, is_provider, is_time, is_number}
use Rattle.model.specs.Sound.{providers_fit, new_whole, old_whole, cause_fits, canceller_fits, start_fits, waiting_fits, live_confirmed}
use Rattle.model.specs.Sound.{is_status}
use Rattle.model.specs.Sound.{is_purpose, is_canceller, within_fits}
use Rattle.sets.specs.Order.{sets_fit, retries_sound}
use Rattle.sound.specs.Marks.{marks_fit}

-- the ranges of all but the times, the sets and the retries [V1]
unfoldable pub outline_fits : Version → Bool
outline_fits v =
    ten_digits v.id.tn.0 && is_number v.id.number && is_status v.status && is_provider v.new.provider
    && is_provider v.old.provider && is_canceller v.canceller
    && is_purpose v.cast.purpose

-- all but the broadcast
unfoldable pub shape_fits : Version → Bool
shape_fits v =
    outline_fits v && marks_fit v && (providers_fit v && new_whole v.new && old_whole v.old && cause_fits v.old && canceller_fits v
    && within_fits v)

-- the times, and who waits [V1, V7]
unfoldable pub times_fit : Version → Bool
times_fit v = is_time v.stamp && ltb v.cast.start (2 ^ 32) && start_fits v && waiting_fits v

-- the times, the sets, who confirmed, and the retries
unfoldable pub cast_fits : Version → Bool
cast_fits v = times_fit v && sets_fit v.cast && live_confirmed v && retries_sound v.cast

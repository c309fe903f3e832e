-- The version table, second part: when a version, the rows of a line and a table are sound.
-- Assumes nothing.
use Rattle.std.specs.Prelude.{ℕ, ◌^◌, Bool, true, false, cond, not, ◌&&◌, ◌||◌, List, [], ◌∷◌, eqb, ltb, leb, length}
use Rattle.systems.specs.Set.{member}
use Rattle.model.specs.Basics.{iff, implies, all, keep, among, every}
use Rattle.model.specs.Numbers.{ten_digits, is_provider, is_set, is_time, is_number, last_provider, last_cause}
use Rattle.model.specs.Retries.{used}
use Rattle.model.specs.Table.{order, sel, rows_of}
use Rattle.model.specs.declared.Id.{Id}
use Rattle.model.specs.declared.NewSide.{NewSide}
use Rattle.model.specs.declared.OldSide.{OldSide}
use Rattle.model.specs.declared.Retries.{Retries}
use Rattle.model.specs.declared.Broadcast.{Broadcast}
use Rattle.model.specs.declared.Version.{Version}

-- ---- statuses [V13]

abbrev pub pending : ℕ
pending = 0

abbrev pub conflict : ℕ
conflict = 1

abbrev pub cancel_pending : ℕ
cancel_pending = 2

abbrev pub sending : ℕ
sending = 3

abbrev pub failure : ℕ
failure = 4

abbrev pub partial_failure : ℕ
partial_failure = 5

abbrev pub active : ℕ
active = 6

abbrev pub old : ℕ
old = 7

abbrev pub canceled : ℕ
canceled = 8

abbrev pub last_status : ℕ
last_status = canceled

abbrev pub is_status : ℕ → Bool
is_status s = leb s last_status

-- *worked*: pending, conflict, cancel-pending
abbrev pub is_worked : ℕ → Bool
is_worked s = among s (pending ∷ conflict ∷ cancel_pending ∷ [])

abbrev pub is_sending : ℕ → Bool
is_sending s = eqb s sending

-- the statuses that have a purpose
abbrev pub is_purposed : ℕ → Bool
is_purposed s = among s (sending ∷ failure ∷ partial_failure ∷ active ∷ [])

-- the statuses in which a version is live; in sending it may be
abbrev pub is_live : ℕ → Bool
is_live s = among s (partial_failure ∷ active ∷ [])

-- the statuses that a version comes to only with the new side
abbrev pub needs_new : ℕ → Bool
needs_new s = is_purposed s || eqb s old

-- purposes: 1 activate, 2 modify, 3 disconnect; 0 none
abbrev pub activate : ℕ
activate = 1

abbrev pub modify : ℕ
modify = 2

abbrev pub disconnect : ℕ
disconnect = 3

abbrev pub is_purpose : ℕ → Bool
is_purpose p = leb p disconnect

-- authorization: 0 none, 1 yes, 2 no
abbrev pub yes : ℕ
yes = 1

abbrev pub no : ℕ
no = 2

-- who cancelled: 0 nobody, 1 the new side, 2 the old side
abbrev pub is_canceller : ℕ → Bool
is_canceller c = leb c 2

-- ---- a version

-- every value in its range [V1]
unfoldable pub retries_in_range : Retries → Bool
retries_in_range r = ltb r.low (2 ^ 63) && ltb r.mid (2 ^ 63) && ltb r.high (2 ^ 63)

unfoldable pub cast_in_range : Broadcast → Bool
cast_in_range c =
    is_purpose c.purpose && ltb c.start (2 ^ 32) && is_set c.confirmed && is_set c.waiting && is_set c.failed
    && retries_in_range c.retries

unfoldable pub in_range : Version → Bool
in_range v =
    ten_digits v.id.tn.0 && is_number v.id.number && is_status v.status && is_time v.stamp && is_provider v.new.provider
    && is_provider v.old.provider && is_canceller v.canceller && cast_in_range v.cast

-- new and old provider are equal exactly in the type within one provider [V1, A14.7]
abbrev pub providers_fit : Version → Bool
providers_fit v = iff v.within (eqb v.new.provider v.old.provider)

-- a side has its due and its LRN or authorization, both exactly when it has created, and one has [V2]
unfoldable pub new_whole : NewSide → Bool
new_whole s = cond s.created (is_time s.due && ten_digits s.lrn.0) (eqb s.due 0 && eqb s.lrn.0 0)

unfoldable pub old_whole : OldSide → Bool
old_whole s = cond s.created (is_time s.due && among s.authorization (yes ∷ no ∷ [])) (eqb s.due 0 && eqb s.authorization 0)

abbrev pub one_created : Version → Bool
one_created v = v.new.created || v.old.created

-- in conflict the old side, in cancel-pending both, in statuses 3 to 7 the new side has [V3]
unfoldable pub sides_needed : Version → Bool
sides_needed v =
    implies (eqb v.status conflict) v.old.created
    && implies (eqb v.status cancel_pending) (v.new.created && v.old.created)
    && implies (needs_new v.status) v.new.created

-- cause 1 to 99 exactly with "no" [V4]
unfoldable pub cause_fits : OldSide → Bool
cause_fits s = cond (eqb s.authorization no) (leb 1 s.cause && leb s.cause last_cause) (eqb s.cause 0)

-- canceller marked exactly in cancel-pending [V5]
abbrev pub canceller_fits : Version → Bool
canceller_fits v = iff (ltb 0 v.canceller) (eqb v.status cancel_pending)

-- no provider is in both
unfoldable pub apart : ℕ → ℕ → Bool
apart a b = every (λ (p : ℕ). not (member a p && member b p)) last_provider

-- the sets disjoint, retries above 0 only for waiting systems [V6]
unfoldable pub sets_apart : Broadcast → Bool
sets_apart c = apart c.confirmed c.waiting && apart c.confirmed c.failed && apart c.waiting c.failed

unfoldable pub retries_fit : Broadcast → Bool
retries_fit c = every (λ (p : ℕ). member c.waiting p || eqb (used c.retries p) 0) last_provider

-- start non-zero exactly when sending; waiting is non-empty exactly when sending [V7]
abbrev pub start_fits : Version → Bool
start_fits v = iff (ltb 0 v.cast.start) (is_sending v.status)

abbrev pub waiting_fits : Version → Bool
waiting_fits v = iff (ltb 0 v.cast.waiting) (is_sending v.status)

-- a purpose exactly in statuses 3 to 6, activate in 4 and 5 [V8]
abbrev pub purpose_fits : Version → Bool
purpose_fits v =
    iff (ltb 0 v.cast.purpose) (is_purposed v.status)
    && implies (among v.status (failure ∷ partial_failure ∷ [])) (eqb v.cast.purpose activate)

-- live in 5 and 6, in 3 unless the purpose is activate (then perhaps), nowhere else [V9]
abbrev pub live_fits : Version → Bool
live_fits v =
    cond (is_sending v.status) (v.live || eqb v.cast.purpose activate)
    (iff v.live (is_live v.status))

-- a live version with purpose activate has a confirmed system, or neither waiting nor failed ones [V10]
abbrev pub live_confirmed : Version → Bool
live_confirmed v =
    implies (v.live && eqb v.cast.purpose activate)
    (ltb 0 v.cast.confirmed || (eqb v.cast.waiting 0 && eqb v.cast.failed 0))

-- in this type only the new side has created and no window mark is set [A14.8]
abbrev pub within_fits : Version → Bool
within_fits v = implies v.within (not v.old.created && not v.window)

unfoldable pub sound_version : Version → Bool
sound_version v =
    in_range v && providers_fit v && new_whole v.new && old_whole v.old && one_created v && sides_needed v && cause_fits v.old
    && canceller_fits v && sets_apart v.cast && retries_fit v.cast && start_fits v && waiting_fits v && purpose_fits v && live_fits v
    && live_confirmed v && within_fits v

-- ---- the rows of one line

abbrev pub count : (Version → Bool) → List Version → ℕ
count p r = length (keep p r)

abbrev pub live : Version → Bool
live v = v.live

abbrev pub sends : Version → Bool
sends v = is_sending v.status

abbrev pub worked : Version → Bool
worked v = is_worked v.status

-- at most one live, one sending and one worked version [V11]
unfoldable pub one_each : List Version → Bool
one_each r = leb (count live r) 1 && leb (count sends r) 1 && leb (count worked r) 1

-- the version has that number
abbrev pub numbered : ℕ → Version → Bool
numbered n v = eqb v.id.number n

-- no version number twice [A3.5]
unfoldable pub none_twice : List Version → Bool
none_twice r = all (λ (v : Version). leb (count (numbered v.id.number) r) 1) r

-- the rows of one line may stand together [V11, A3.5]
unfoldable pub sound_line : List Version → Bool
sound_line r = one_each r && none_twice r

-- ---- a table

-- strictly rising by TN and then version number [T2]
abbrev pub above : Id → List Version → Bool
above k [] = true
above k (x ∷ xs) = sel (order k x.id) (above x.id xs) false false

abbrev pub rising : List Version → Bool
rising [] = true
rising (x ∷ xs) = above x.id xs

-- of each line that the table names, the rows may stand together
unfoldable pub sound_lines : (ℕ → ℕ) → List Version → Bool
sound_lines line t = all (λ (v : Version). sound_line (rows_of line (line v.id.tn.0) t)) t

abbrev pub most_rows : ℕ
most_rows = 4096

-- A table of so many rows, at most 4,096, of which these are used. [T1]
unfoldable pub sound_table : (ℕ → ℕ) → ℕ → List Version → Bool
sound_table line rows t = leb rows most_rows && leb (length t) rows && rising t && all sound_version t && sound_lines line t

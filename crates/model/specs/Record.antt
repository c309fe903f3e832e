-- The event record: what its kind asks of the fields.
-- Assumes nothing.
use Rattle.std.specs.Prelude.{ℕ, ◌^◌, Bool, false, cond, not, ◌&&◌, ◌||◌, [], ◌∷◌, ltb, leb, eqb, Result, Err}
use Rattle.model.specs.Basics.{among}
use Rattle.model.specs.Kinds as kind
use Rattle.model.specs.Numbers.{ten_digits, last_cause}
use Rattle.model.specs.Sound.{yes, no}
use Rattle.model.specs.declared.Event.{Event}
use Rattle.model.specs.declared.Malformed.{Malformed}

-- ---- what a record reads as: its event, or malformed [E5]

abbrev pub Reading : Type 0
Reading = Result Event Malformed

abbrev pub malformed : Reading
malformed = Err (record {})

-- ---- the kinds

-- 1 new side creates, 2 old side creates
abbrev pub is_create : ℕ → Bool
is_create k = among k (kind.new_creates ∷ kind.old_creates ∷ [])

-- 11 reply, 12 silence
abbrev pub is_answer : ℕ → Bool
is_answer k = among k (kind.reply ∷ kind.silence ∷ [])

-- 3 modify new, 4 modify old
abbrev pub is_modify : ℕ → Bool
is_modify k = among k (kind.new_modifies ∷ kind.old_modifies ∷ [])

-- 5 activate, 9 modify active, 10 disconnect, 14 resend
abbrev pub is_broadcast : ℕ → Bool
is_broadcast k = among k (kind.activate ∷ kind.modify_active ∷ kind.disconnect ∷ kind.resend ∷ [])

-- 5 activate, 6 cancel, 7 acknowledge cancel, 8 resolve conflict, 10 disconnect, 13 window ran out, 14 resend, 15 purge
abbrev pub is_plain : ℕ → Bool
is_plain k = (leb kind.activate k && leb k kind.resolve) || eqb k kind.disconnect || (leb kind.window_ran_out k && leb k kind.last)

-- ---- the fields besides TN and time [E2, E3]

abbrev pub named : ℕ → Bool
named x = ltb 0 x

abbrev pub unused : ℕ → Bool
unused x = eqb x 0

-- Sender and other differ in kinds 1 and 2. [E4]
abbrev pub two_sides : ℕ → ℕ → Bool
two_sides a b = named a && named b && not (eqb a b)

-- authorization, with cause 1 to 99 with "no" and 0 with "yes"
abbrev pub authorizes : ℕ → ℕ → Bool
authorizes mark cause = (eqb mark yes && unused cause) || (eqb mark no && named cause && leb cause last_cause)

-- a result: success or failure
abbrev pub results : ℕ → Bool
results mark = eqb mark yes || eqb mark no

-- the version type, within one provider
abbrev pub is_within : Event → Bool
is_within e = eqb e.within 1

-- Kind 1 alone takes the type, [A14.10]
abbrev pub type_fits : Event → Bool
type_fits e = unused e.within || eqb e.kind kind.new_creates

-- and sender and other are then equal. [A14.5, A14.10]
abbrev pub sides_named : Event → Bool
sides_named e = cond (is_within e) (named e.sender && eqb e.sender e.other) (two_sides e.sender e.other)

-- 1: sender, other = old, LRN, due, type
abbrev pub new_creates : Event → Bool
new_creates e =
    sides_named e && unused e.mark && unused e.cause && ten_digits e.lrn.0
    && unused e.version && named e.due

-- 2: sender, other = new, authorization, cause, due
abbrev pub old_creates : Event → Bool
old_creates e =
    two_sides e.sender e.other && authorizes e.mark e.cause && unused e.lrn.0 && unused e.version && named e.due

-- 3: sender, version, LRN, due
abbrev pub new_modifies : Event → Bool
new_modifies e =
    unused e.other && unused e.mark && unused e.cause && ten_digits e.lrn.0 && named e.version && named e.due

-- 4: sender, version, authorization, cause, due
abbrev pub old_modifies : Event → Bool
old_modifies e = unused e.other && authorizes e.mark e.cause && unused e.lrn.0 && named e.version && named e.due

-- 5 to 8, 10, 13 to 15: sender, version
abbrev pub plainly : Event → Bool
plainly e = unused e.other && unused e.mark && unused e.cause && unused e.lrn.0 && named e.version && unused e.due

-- 9: sender, version, LRN
abbrev pub modifies_active : Event → Bool
modifies_active e =
    unused e.other && unused e.mark && unused e.cause && ten_digits e.lrn.0 && named e.version && unused e.due

-- 11: sender, version, result
abbrev pub replies : Event → Bool
replies e =
    named e.sender && unused e.other && results e.mark && unused e.cause && unused e.lrn.0 && named e.version
    && unused e.due

-- 12: sender 0, other = Local SMS, version
abbrev pub silent : Event → Bool
silent e =
    unused e.sender && named e.other && unused e.mark && unused e.cause && unused e.lrn.0 && named e.version
    && unused e.due

unfoldable pub kind_fits : Event → Bool
kind_fits e =
    cond (is_plain e.kind) (plainly e)
    (cond (eqb e.kind kind.new_creates) (new_creates e)
    (cond (eqb e.kind kind.old_creates) (old_creates e)
    (cond (eqb e.kind kind.new_modifies) (new_modifies e)
    (cond (eqb e.kind kind.old_modifies) (old_modifies e)
    (cond (eqb e.kind kind.modify_active) (modifies_active e)
    (cond (eqb e.kind kind.reply) (replies e)
    (cond (eqb e.kind kind.silence) (silent e) false)))))))

-- ---- the whole record

-- the fields fit the bits that the record has for them [E1]
unfoldable pub fits_bits : Event → Bool
fits_bits e =
    ltb e.kind (2 ^ 8) && ltb e.sender (2 ^ 6) && ltb e.other (2 ^ 6) && ltb e.mark (2 ^ 2) && ltb e.cause (2 ^ 8)
    && ltb e.tn.0 (2 ^ 34) && ltb e.lrn.0 (2 ^ 34) && ltb e.version (2 ^ 16) && ltb e.time (2 ^ 32) && ltb e.due (2 ^ 32)
    && ltb e.within (2 ^ 1)

-- Otherwise malformed. [E5]
unfoldable pub well_formed : Event → Bool
well_formed e = fits_bits e && ten_digits e.tn.0 && named e.time && type_fits e && kind_fits e

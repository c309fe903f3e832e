-- Standing and status: the grid, and the finer conditions.
-- Assumes nothing.
use Rattle.std.specs.Prelude.{ℕ, suc, ◌+◌, ◌-◌, Bool, cond, not, ◌&&◌, ◌||◌, [], ◌∷◌, eqb, ltb, leb}
use Rattle.model.specs.Basics.{among}
use Rattle.model.specs.Kinds as kind
use Rattle.model.specs.Sound.{pending, conflict, cancel_pending, failure, partial_failure, active, old, canceled}
use Rattle.model.specs.declared.Event.{Event}
use Rattle.model.specs.declared.Version.{Version}

-- ---- who sends: the new side, the old side, the NPAC, or anybody else

abbrev pub as_new : ℕ
as_new = 0

abbrev pub as_old : ℕ
as_old = 1

abbrev pub as_npac : ℕ
as_npac = 2

abbrev pub as_other : ℕ
as_other = 3

-- A side has standing if it has created. [G1]
unfoldable pub standing_of : Event → Version → ℕ
standing_of e v =
    cond (eqb e.sender 0) as_npac
    (cond (v.new.created && eqb e.sender v.new.provider) as_new
    (cond (v.old.created && eqb e.sender v.old.provider) as_old as_other))

-- Who cancelled: nobody, or a side by its standing, the new side 1 and the old side 2. [K1]
abbrev pub nobody : ℕ
nobody = 0

abbrev pub canceller_as : ℕ → ℕ
canceller_as standing = suc standing

-- ---- the grid

-- Kinds 3, 5, 9, 10: new; 4: old; 6, 7, 8: either; 13, 14, 15: NPAC. [G1]
abbrev pub stands_for : ℕ → ℕ → Bool
stands_for k w =
    cond (among k (kind.new_modifies ∷ kind.activate ∷ kind.modify_active ∷ kind.disconnect ∷ [])) (eqb w as_new)
    (cond (eqb k kind.old_modifies) (eqb w as_old)
    (cond (among k (kind.cancel ∷ kind.acknowledge ∷ kind.resolve ∷ [])) (leb w as_old)
    (eqb w as_npac)))

-- Statuses: 3, 4, 6 in pending or conflict; 5 pending; 7 cancel-pending; 8 conflict; 9, 10 active; 13 pending or cancel-pending; 14 failed,
-- partial-failure or active; 15 old or canceled. [G2]
abbrev pub status_for : ℕ → ℕ → Bool
status_for k s =
    cond (among k (kind.new_modifies ∷ kind.old_modifies ∷ kind.cancel ∷ [])) (among s (pending ∷ conflict ∷ []))
    (cond (eqb k kind.activate) (eqb s pending)
    (cond (eqb k kind.acknowledge) (eqb s cancel_pending)
    (cond (eqb k kind.resolve) (eqb s conflict)
    (cond (among k (kind.modify_active ∷ kind.disconnect ∷ [])) (eqb s active)
    (cond (eqb k kind.window_ran_out) (among s (pending ∷ cancel_pending ∷ []))
    (cond (eqb k kind.resend) (among s (failure ∷ partial_failure ∷ active ∷ []))
    (among s (old ∷ canceled ∷ []))))))))

-- the kinds of the grid, all but creates and answers, and their places in it
abbrev pub is_grid_kind : ℕ → Bool
is_grid_kind k = (leb kind.new_modifies k && leb k kind.disconnect) || (leb kind.window_ran_out k && leb k kind.last)

abbrev pub grid_kinds : ℕ
grid_kinds = 11

-- statuses by kinds by standings
abbrev pub grid_entries : ℕ
grid_entries = 297

abbrev pub grid_place : ℕ → ℕ
grid_place k = cond (ltb k 11) (k - 3) (k - 5)

abbrev pub kind_at : ℕ → ℕ
kind_at j = cond (ltb j 8) (j + 3) (j + 5)

-- The grid: 6 wherever the standing is wrong, else 7 wherever the status is, else 0. [G2, H6]
unfoldable pub grid_rule : ℕ → ℕ → ℕ → ℕ
grid_rule s k w = cond (stands_for k w) (cond (status_for k s) 0 7) 6

-- The finer conditions that add 7: 5 where neither the old side has created nor its window ran out, unless it is within one provider; 13
-- within one provider; 9 and 10 where failed is not empty; 14 on active where failed is empty. [G3, A14.6, A14.12]
unfoldable pub unready : Event → Version → Bool
unready e v =
    cond (eqb e.kind kind.activate) (not (v.old.created || v.window || v.within))
    (cond (eqb e.kind kind.window_ran_out) v.within
    (cond (among e.kind (kind.modify_active ∷ kind.disconnect ∷ [])) (not (eqb v.cast.failed 0))
    (eqb e.kind kind.resend && eqb v.status active && eqb v.cast.failed 0)))

-- the sender lacks the standing
abbrev pub lacks_standing : Event → Version → Bool
lacks_standing e v = eqb (grid_rule v.status e.kind (standing_of e v)) 6

-- the status does not allow it
abbrev pub wrong_status : Event → Version → Bool
wrong_status e v = eqb (grid_rule v.status e.kind (standing_of e v)) 7 || unready e v

-- The tray: the messages of each event. Provider systems are SOA and Local SMS apart. [Y1]
-- Assumes nothing.
use Rattle.std.specs.Prelude.{ℕ, zero, suc, ◌+◌, Bool, true, false, cond, List, [], ◌∷◌, ◌++◌, map, eqb}
use Rattle.systems.specs.Set.{member}
use Rattle.model.specs.Numbers.{last_provider}
use Rattle.model.specs.Sound.{activate}
use Rattle.model.specs.declared.Lrn.{Lrn}
use Rattle.model.specs.declared.Version.{Version}
use Rattle.model.specs.declared.Message.{Message}

-- ---- sorts

abbrev pub creation : ℕ
creation = 1

abbrev pub status : ℕ
status = 2

abbrev pub attributes : ℕ
attributes = 3

-- 4 download create, 5 download modify, 6 download delete
abbrev pub download : ℕ → ℕ
download purpose = 3 + purpose

abbrev pub window_notice : ℕ
window_notice = 7

-- ---- a message

-- The status is the one after the event: v is the version after it. [Y1]
abbrev pub message : Version → Bool → ℕ → ℕ → ℕ → Lrn → Message
message v local sort failed provider lrn =
    record { local = local; provider = provider; sort = sort; id = v.id; status = v.status; failed = failed; lrn = lrn }

abbrev pub no_lrn : Lrn
no_lrn = record { 0 = 0 }

abbrev pub to_soas : Version → ℕ → ℕ → Lrn → List ℕ → List Message
to_soas v sort failed lrn ps = map (λ (p : ℕ). message v false sort failed p lrn) ps

-- the two sides: old, new; within one provider they are one [A14.3]
abbrev pub sides_told : Version → List ℕ
sides_told v = cond v.within (v.new.provider ∷ []) (v.old.provider ∷ v.new.provider ∷ [])

-- those of 1 to n that are in the set, rising, and then the rest
abbrev pub members_to : ℕ → ℕ → List ℕ → List ℕ
members_to s zero l = l
members_to s (suc n) l = members_to s n (cond (member s (suc n)) (suc n ∷ l) l)

unfoldable pub members : ℕ → List ℕ
members s = members_to s last_provider []

-- ---- what is told

-- Fresh: creation to old, new. [Y3]
abbrev pub created_told : Version → List Message
created_told w = to_soas w creation 0 no_lrn (sides_told w)

-- Status to old, new. [Y6]
abbrev pub status_told : Version → List Message
status_told w = to_soas w status 0 no_lrn (sides_told w)

abbrev pub attributes_told : Version → List Message
attributes_told w = to_soas w attributes 0 w.new.lrn (sides_told w)

-- Concurrence and kinds 3, 4: status to old, new if it changed, then attributes to old, new. [Y4]
abbrev pub restated_told : Version → Version → List Message
restated_told v w = cond (eqb v.status w.status) [] (status_told w) ++ attributes_told w

-- Broadcasts: download create, modify or delete by purpose, rising provider; again on a retry. [Y5]
abbrev pub download_to : Version → ℕ → Message
download_to w p = message w true (download w.cast.purpose) 0 p w.new.lrn

abbrev pub downloads : Version → List Message
downloads w = map (download_to w) (members w.cast.waiting)

-- Closing: to old, new; for modify and disconnect to new only. [Y6]
abbrev pub told_at_close : Version → List ℕ
told_at_close v = cond (eqb v.cast.purpose activate) (sides_told v) (v.new.provider ∷ [])

-- The window notice to old. [Y7]
abbrev pub window_told : Version → List Message
window_told w = to_soas w window_notice 0 no_lrn (w.old.provider ∷ [])

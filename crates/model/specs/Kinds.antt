-- The kinds of events, each by its name. [E2]
-- Assumes nothing.
use Rattle.std.specs.Prelude.{ℕ}

abbrev pub new_creates : ℕ
new_creates = 1

abbrev pub old_creates : ℕ
old_creates = 2

abbrev pub new_modifies : ℕ
new_modifies = 3

abbrev pub old_modifies : ℕ
old_modifies = 4

abbrev pub activate : ℕ
activate = 5

abbrev pub cancel : ℕ
cancel = 6

abbrev pub acknowledge : ℕ
acknowledge = 7

abbrev pub resolve : ℕ
resolve = 8

abbrev pub modify_active : ℕ
modify_active = 9

abbrev pub disconnect : ℕ
disconnect = 10

abbrev pub reply : ℕ
reply = 11

abbrev pub silence : ℕ
silence = 12

abbrev pub window_ran_out : ℕ
window_ran_out = 13

abbrev pub resend : ℕ
resend = 14

abbrev pub purge : ℕ
purge = 15

-- the last of them
abbrev pub last : ℕ
last = purge

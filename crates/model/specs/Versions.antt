-- A version as a rule leaves it. What a rule does not name stays as it was, and no rule changes the name. [U2]
-- Assumes nothing.
use Rattle.std.specs.Prelude.{ℕ, Bool}
use Rattle.model.specs.declared.Lrn.{Lrn}
use Rattle.model.specs.declared.NewSide.{NewSide}
use Rattle.model.specs.declared.OldSide.{OldSide}
use Rattle.model.specs.declared.Broadcast.{Broadcast}
use Rattle.model.specs.declared.Version.{Version}

-- all that any rule sets
abbrev pub changed : Version → ℕ → ℕ → Bool → NewSide → OldSide → ℕ → Bool → Broadcast → Version
changed v status stamp live new old canceller window cast =
    record {
      id = v.id;
      status = status;
      stamp = stamp;
      live = live;
      new = new;
      old = old;
      canceller = canceller;
      window = window;
      within = v.within;
      cast = cast;
    }

-- outside a broadcast: status, stamp, the two sides, canceller, window
abbrev pub restated : Version → ℕ → ℕ → NewSide → OldSide → ℕ → Bool → Version
restated v status stamp new old canceller window = changed v status stamp v.live new old canceller window v.cast

-- with its broadcast: status, stamp, live, the new side, the broadcast
abbrev pub recast : Version → ℕ → ℕ → Bool → NewSide → Broadcast → Version
recast v status stamp live new cast = changed v status stamp live new v.old v.canceller v.window cast

-- ---- its parts

-- LRN and due
abbrev pub rerouted : NewSide → Lrn → ℕ → NewSide
rerouted s lrn due = record { provider = s.provider; created = s.created; lrn = lrn; due = due }

-- authorization, cause and due
abbrev pub reauthorized : OldSide → ℕ → ℕ → ℕ → OldSide
reauthorized s authorization cause due =
    record { provider = s.provider; created = s.created; authorization = authorization; cause = cause; due = due }

-- purpose and start
abbrev pub repurposed : Broadcast → ℕ → ℕ → Broadcast
repurposed c purpose start =
    record { purpose = purpose; start = start; confirmed = c.confirmed; waiting = c.waiting; failed = c.failed; retries = c.retries }

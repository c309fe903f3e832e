-- The search for a row that collides with another of its line: the names of the line instead of the line, and the rows that have no
-- rival. Assumes nothing.
use Prim.Native.Nat.{ℕ, ◌<◌}
use mathlib.Core.Path.{◌≡◌, refl, sym, ap, ◌∙◌}
use mathlib.Core.Bool.{Bool, true, false, cond, ◌&&◌, ◌||◌, false≢true}
use mathlib.Core.List.{List, []}
use native.Mathlib.Omega.{arith}
use borrow.Author.Tests.{eqb-true, ne_eqb}
use lib.Dec.{eqb}
use lib.ListN.{length}
use Rattle.faults.specs.declared.Found.{Found}
use Rattle.std.specs.Prelude.{Option, None}
use Rattle.faults.specs.Faults.{first_broken}
use Rattle.faults.proofs.Laws.{nearest-same, nearest_none}
use Rattle.model.specs.declared.Version.{Version}
use Rattle.model.specs.Books.{Split, line_in}
use Rattle.model.specs.Sound.{live, sends, worked}
use Rattle.row.specs.Layout.{unpack}
use Rattle.rows.proofs.Sounds.{number_lt, sound_at}
use Rattle.scan.proofs.Meant.{Good}
use Rattle.table.specs.Find.{key_for}
use Rattle.table.specs.Survey.{version_at}
use Rattle.table.proofs.Changed.{rises_at}
use Rattle.books.specs.declared.Names.{Names}
use Rattle.books.specs.Line.{Named}
use Rattle.lines.proofs.Twos.{Clear}
use Rattle.lines.proofs.Together.{itself_clear}
use Rattle.linefaults.specs.Clauses.{collide, rival, rival_under, under_clauses, row_found}

-- ---- versions that may stand in one line do not collide

pub clear_apart : (n : ℕ) (u v : Version) → Clear u v → collide n u v ≡ false
clear_apart n u v c = go (eqb n 33) (eqb n 34) (eqb n 35)
  where
    off : (a b : Bool) → (a ≡ true → b ≡ true → ⊥) → (a && b) ≡ false
    off true true f = absurd (f refl refl)
    off true false f = refl
    off false b f = refl

    go : (x y z : Bool) → cond x (live u && live v)
        (cond y (sends u && sends v) (cond z (worked u && worked v) (eqb u.id.number v.id.number))) ≡ false
    go true y z = off (live u) (live v) c.lives
    go false true z = off (sends u) (sends v) c.sent
    go false false true = off (worked u) (worked v) c.work
    go false false false = ne_eqb u.id.number v.id.number c.number

-- ---- a row by the names of its line

module _ (xs : List Split) (vs : List Version) (i : ℕ) (v : Version) (ev : v ≡ version_at vs i) (r : Names)
    (named : Named xs v.id.tn.0 r) where
  abbrev tn : ℕ → ℕ
  tn j = (version_at vs j).id.tn.0

  under-line : (n : ℕ) → rival_under n r.low.0 r.high.0 vs v i ≡ rival n (line_in xs) vs i
  under-line n = nearest-same _ _ i (λ j k. ap (λ (b : Bool). b && collide n (version_at vs j) v) (named.names (tn j))
      ∙ ap (λ (w : Version). eqb (line_in xs (tn j)) (line_in xs w.id.tn.0) && collide n (version_at vs j) w) ev)

  -- what is found under the names is what is found in the line
  pub found-under : (f : Option Found) → f ≡ first_broken (under_clauses r.low.0 r.high.0 vs v i) None
      → f ≡ row_found (line_in xs) vs i
  unfolding row_found
  found-under f e = e ∙ rw (under-line 33, under-line 34, under-line 35, under-line 36)

  -- a row under the smaller name: those of its line before it have its TN
  module _ (rows : ℕ) (g : Good rows vs) (h : i < length vs) (low : v.id.tn.0 ≡ r.low.0) where
    own : (j : ℕ) → j < i → (eqb (tn j) r.low.0 || eqb (tn j) r.high.0) ≡ true → tn j ≡ tn i
    own j k y = go (eqb (tn j) r.low.0) (eqb (tn j) r.high.0) refl refl y
      where
        same : tn i ≡ r.low.0
        same = ap (λ (w : Version). w.id.tn.0) (sym ev) ∙ low

        go : (a b : Bool) → eqb (tn j) r.low.0 ≡ a → eqb (tn j) r.high.0 ≡ b → (a || b) ≡ true → tn j ≡ tn i
        go true b p q z = eqb-true _ _ p ∙ sym same
        go false true p q z =
            let up : key_for (version_at vs j) < key_for (version_at vs i) = rises_at vs 0 j i g.rises k h in
            let m : (version_at vs j).id.number < 65536 = number_lt (version_at vs j) (sound_at vs j (unpack []) g.sound (omega arith)) in
            let l : (version_at vs i).id.number < 65536 = number_lt (version_at vs i) (sound_at vs i (unpack []) g.sound h) in
            let high : tn j ≡ r.high.0 = eqb-true _ _ q in
            omega (arith, same, named.rises)
        go false false p q z = absurd (false≢true z)

    unmet : (n j : ℕ) → j < i → ((eqb (tn j) r.low.0 || eqb (tn j) r.high.0) && collide n (version_at vs j) v) ≡ false
    unmet n j k = go (eqb (tn j) r.low.0 || eqb (tn j) r.high.0) refl
      where
        go : (a : Bool) → (eqb (tn j) r.low.0 || eqb (tn j) r.high.0) ≡ a → (a && collide n (version_at vs j) v) ≡ false
        go true y = ap (collide n (version_at vs j)) ev
            ∙ clear_apart n (version_at vs j) (version_at vs i) (itself_clear rows vs g j i k h (own j k y))
        go false y = refl

    alone : (n : ℕ) → rival n (line_in xs) vs i ≡ 0
    alone n = sym (under-line n) ∙ nearest_none _ i (unmet n)

    pub found-alone : None ≡ row_found (line_in xs) vs i
    unfolding row_found
    found-alone = rw (alone 33, alone 34, alone 35, alone 36)

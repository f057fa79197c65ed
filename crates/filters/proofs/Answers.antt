-- A filter's answer: the selector that is refused, or the block beside it. Assumes nothing.
use Rattle.std.proofs.Common.{◌≡◌, refl, ap, List, ℕ, ◌≤◌, ◌<◌, lt-ltb, le-ltb, replicate, Ok, Err}
use Rattle.laws.specs.Outcome.{accepted, first_of}
use Rattle.filters.specs.declared.BadSelector.{BadSelector}
use Rattle.filters.specs.Refusals.{filter_lines, FilterIs}

module _ (mx my n : ℕ) (expected : List ℕ) where
  pub first-refused : (e : BadSelector) → 7 < mx → FilterIs (first_of (filter_lines mx my) expected) n (Err e) (replicate n 0)
  first-refused e h = simp (lt-ltb 7 mx h) (record { outcome = refl; beside = refl })

  pub second-refused : (e : BadSelector) → mx ≤ 7 → 7 < my → FilterIs (first_of (filter_lines mx my) expected) n (Err e) (replicate n 0)
  second-refused e h l = simp (le-ltb 7 mx h, lt-ltb 7 my l) (record { outcome = refl; beside = refl })

  pub both_legal : (block : List ℕ) → mx ≤ 7 → my ≤ 7 → block ≡ expected → FilterIs (first_of (filter_lines mx my) expected) n (Ok tt) block
  both_legal block h l e = simp (le-ltb 7 mx h, le-ltb 7 my l) (record { outcome = ap (λ (b : List ℕ). accepted b) e; beside = e })

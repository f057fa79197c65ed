use Rattle.std.proofs.Common.{arith, ◌≡◌, ◌∙◌, ap, subst, sym, ℕ, ◌≤◌, ℤ, w32, to_z, of_z, to_z-of_z}
use Rattle.laws.specs.Signed.{above, below}
use Rattle.laws.proofs.Signed.{self}
use Rattle.prediction.specs.Filter.{sixtap_rows, sixtap}
use Rattle.sixtap.specs.Internal.{Row}
use Rattle.sixtap.specs.declared.taps.Taps.{Taps}
use Rattle.sixtap.proofs.Table.{tap-small, tap-fits, signs_right, by-above, by-below}
use Rattle.sixtap.proofs.row.Goals as goal

asked : (s k : ℕ) → below (sixtap s k) ≡ 0 → (above (to_z w32 (of_z w32 (sixtap s k))) ≤ 128) × (below (to_z w32 (of_z w32 (sixtap s k))) ≡ 0)
asked s k h =
    subst (λ (z : ℤ). (above z ≤ 128) × (below z ≡ 0)) (sym (to_z-of_z (tap-fits s k))) (omega (arith, tap-small s k, self (sixtap s k)), h)

asked-taken : (s k : ℕ) → above (sixtap s k) ≡ 0 → (below (to_z w32 (of_z w32 (sixtap s k))) ≤ 128) × (above (to_z w32 (of_z w32 (sixtap s k))) ≡ 0)
asked-taken s k h =
    subst (λ (z : ℤ). (below z ≤ 128) × (above z ≡ 0)) (sym (to_z-of_z (tap-fits s k))) (omega (arith, tap-small s k, self (sixtap s k)), h)

made : (s : ℕ) (t : Taps) → t.a ≡ above (sixtap s 0) → t.b ≡ below (sixtap s 1) → t.c ≡ above (sixtap s 2) → t.d ≡ above (sixtap s 3) → t.e ≡ below (sixtap s 4) → t.f ≡ above (sixtap s 5) → Row s t
made s t a b d e f g =
    let h = signs_right s in
    record {
      a = by-above _ _ a (omega arith);
      b = by-below _ _ b (omega arith);
      c = by-above _ _ d (omega arith);
      d = by-above _ _ e (omega arith);
      e = by-below _ _ f (omega arith);
      f = by-above _ _ g (omega arith);
    }

pub added_size-a-requires : goal.added_size-a-requires
unfolding sixtap_rows sixtap
added_size-a-requires c = asked c.args.s 0 (omega (arith, signs_right c.args.s))

pub taken_size-b-requires : goal.taken_size-b-requires
unfolding sixtap_rows sixtap
taken_size-b-requires c = asked-taken c.args.s 1 (omega (arith, signs_right c.args.s))

pub added_size-c-requires : goal.added_size-c-requires
unfolding sixtap_rows sixtap
added_size-c-requires c = asked c.args.s 2 (omega (arith, signs_right c.args.s))

pub added_size-d-requires : goal.added_size-d-requires
unfolding sixtap_rows sixtap
added_size-d-requires c = asked c.args.s 3 (omega (arith, signs_right c.args.s))

pub taken_size-e-requires : goal.taken_size-e-requires
unfolding sixtap_rows sixtap
taken_size-e-requires c = asked-taken c.args.s 4 (omega (arith, signs_right c.args.s))

pub added_size-f-requires : goal.added_size-f-requires
unfolding sixtap_rows sixtap
added_size-f-requires c = asked c.args.s 5 (omega (arith, signs_right c.args.s))

pub returns : goal.returns
unfolding sixtap_rows sixtap
returns c =
    let s = c.args.s in
    let a = c.added_size-a.ensures ∙ ap above (to_z-of_z (tap-fits s 0)) in
    let b = c.taken_size-b.ensures ∙ ap below (to_z-of_z (tap-fits s 1)) in
    let d = c.added_size-c.ensures ∙ ap above (to_z-of_z (tap-fits s 2)) in
    let e = c.added_size-d.ensures ∙ ap above (to_z-of_z (tap-fits s 3)) in
    let f = c.taken_size-e.ensures ∙ ap below (to_z-of_z (tap-fits s 4)) in
    let g = c.added_size-f.ensures ∙ ap above (to_z-of_z (tap-fits s 5)) in
    made s _ a b d e f g

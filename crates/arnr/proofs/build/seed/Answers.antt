-- `arnr::build::seed` meets its contract. Assumes nothing.
use Rattle.std.proofs.Common.{◌≡◌, refl, sym, ap, ◌∙◌, List, ℕ, length, replicate, arith, rules}
use Rattle.std.proofs.lemmas.List.{get_or-replicate, get_or_past}
use Rattle.std.proofs.Math.ListN.{length-replicate}
use Rattle.denoiser.specs.Internal.{Front}
use Rattle.denoiser.proofs.Fronts.{front_none, front-more}
use Rattle.arnr.proofs.build.seed.Goals as goal

-- a list that is all v
front_all : (v n : ℕ) (old now : List ℕ) → length old ≡ n → now ≡ replicate (length old) v → Front n (λ k. v) old now
front_all v n old now long is =
    let still : length now ≡ length old = ap length is ∙ length-replicate _ _ in
    record {
      long = still;
      within = λ k h. rw is (get_or-replicate (length old) k v 0 (omega arith));
      past = λ k h. get_or_past now k 0 (omega arith) ∙ sym (get_or_past old k 0 (omega arith));
    }

pub loop-k-init : goal.loop-k-init
loop-k-init c = front_none _ _

pub loop-k-preserved : goal.loop-k-preserved
loop-k-preserved c =
    front-more _ c.loop-k.k _ c.args.sums.now c.loop-k.sums (omega (arith, c.requires.exact.of_sums, c.loop-k-test.true)) refl c.loop-k.invariant

pub returns : goal.returns
returns c =
    let k-is : c.loop-k.k ≡ length c.args.out.now = omega arith in
    record { front = rw k-is at c.loop-k.invariant; front_2 = front_all 16 _ c.args.weights.now _ c.requires.exact.of_weights (c.fill.ensures.after (search rules)) }

-- The two claims of the tables: what the definitions give is what the paper says, in every row. Assumes nothing.
use Rattle.std.proofs.Common.{◌≡◌, refl, map}
use Rattle.laws.specs.Sums.{sum_below, sum_over}
use Rattle.laws.specs.Largest.{largest, nearest}
use Rattle.laws.specs.Best.{better_of, best_among, best_in}
use Rattle.prediction.specs.Filter.{products, filtered, sixtap_rows, sixtap}
use Rattle.prediction.specs.Prediction.{horizontal_at, vertical_at}
use Rattle.weights.specs.Weights.{scale, weight_of, weight_read, capped_weight}
use Rattle.weights.specs.Blend.{total_weight, weighted_sum, denoised, distance_bound}
use Rattle.denoiser.specs.Search.{sad_of, neighbour_of, neighbours_of, stepped, measured_by, block_search}
use Rattle.denoiser.specs.Chroma.{half_sample, plane_sad, plane_passes, three_accepted}
use Rattle.denoiser.specs.Window.{gate, share_of, total_at, sum_at, denoised_at, accepted_in, accepted_blocks}
use Rattle.denoiser.specs.Window.{cost_of, displacement_of, block_accepted, displaced_at, arnr_rule}
use Rattle.values.specs.Values.{Row, flag, row, sample_of, share_on, table, flat, capped, total, sum, sample, blocks, spot, half_spot, down_first, unclamped, plain, tinted, sad_of_u, passes_in_u, accepted_on_three, requested}

pub values : map (λ (r : Row). r.given) table ≡ map (λ (r : Row). r.paper) table
unfolding table row flag sample_of share_on products filtered sixtap sixtap_rows scale weight_of sum_over total_weight weighted_sum denoised largest nearest distance_bound
values = refl

pub request-values : map (λ (r : Row). r.given) requested ≡ map (λ (r : Row). r.paper) requested
unfolding requested row flag plain tinted sad_of_u passes_in_u accepted_on_three plane_sad plane_passes three_accepted flat capped total sum sample blocks spot half_spot down_first unclamped sample_of half_sample horizontal_at vertical_at filtered products sixtap sixtap_rows total_at sum_at denoised_at total_weight weighted_sum denoised sum_below sum_over share_of arnr_rule gate capped_weight weight_read weight_of scale accepted_in accepted_blocks cost_of displacement_of block_accepted displaced_at sad_of neighbour_of neighbours_of stepped measured_by block_search best_in best_among better_of
request-values = refl

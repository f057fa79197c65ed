-- Laws of the whole-picture search: it gives what the single calls give, none of which is refused, and a picture that is its own source
-- stays where it is. Assumes nothing.
use Rattle.std.proofs.Common.{◌≡◌, refl, sym, ap, ◌∙◌, Bool, true, false, cond, ⊎_elim, List, [], ◌∷◌, ℕ, zero, suc, ◌+◌, ◌*◌, ◌/◌, ◌%◌, ◌≤◌, ◌<◌, arith, ltb-false, ℤ, pos, length, get_or, replicate}
use Rattle.laws.specs.Front.{front}
use Rattle.laws.proofs.Front.{front_at, front-past, front_length, after-accepted, after-refused}
use Rattle.laws.proofs.Sums.{sum-most}
use Rattle.laws.specs.Outcome.{Outcome, refused, accepted, first_of}
use Rattle.laws.proofs.Outcome.{Skipped, skipped, answered, or_none}
use Rattle.laws.proofs.Best.{Chosen}
use Rattle.prediction.specs.declared.motion_vector.Mv.{Mv}
use Rattle.prediction.specs.Samples.{distance}
use Rattle.prediction.specs.Vector.{stored_mv}
use Rattle.prediction.specs.Plane.{Plane, luma_plane}
use Rattle.prediction.specs.Filter.{FilterRows, filter_set_of, rows_for}
use Rattle.prediction.specs.Refusals.{bad_size, short_plane, bad_version}
use Rattle.filters.specs.Sets.{Identity}
use Rattle.fetch.specs.Refusals.{fetch_lines, macroblock_at}
use Rattle.search.specs.declared.DiamondResult.{DiamondResult}
use Rattle.search.specs.declared.SearchResult.{SearchResult}
use Rattle.search.specs.declared.picture.SearchedMb.{SearchedMb}
use Rattle.search.specs.Sad.{sad16, cost_in, cost_of}
use Rattle.search.specs.Search.{same_mv, gridded, round_of, descend, start_at, diamond, raster_of, refine}
use Rattle.search.specs.Refusals.{bad_macroblock, out_of_range, off_grid, place_lines, refine_lines}
use Rattle.search.specs.Picture.{mb_columns, mb_count, source_block, zero_mv, whole_found, half_found, last_found, searched_mb, searched_at, picture_at, Lists, lists, picture_lines, picture_expected, PictureIs, PictureSearched}
use Rattle.search.specs.Internal.{Good}
use Rattle.search.proofs.Accepted.{also_accepted}
use Rattle.search.proofs.SadLaws.{cost_most_in, copied_mb}
use Rattle.search.proofs.Descent.{round_is, start_good}
use Rattle.search.proofs.Luma.{luma_sads, diamond-inside, diamond_multiple}
use Rattle.search.proofs.Refine.{refine_best, refine-sad, refine-inside, half_multiple, step_room}
use Rattle.search.proofs.Versions.{taps_whole}
use Rattle.search.proofs.Raster.{never_10, origin_fits, block_fetched, block-byte}

-- the vectors that are refined pass 11 and 12, over any costs, and the last passes 11
module _ (whole_cost cost : Mv → ℕ) (limit : ℕ) where
  half-inside : out_of_range (half_found whole_cost cost limit).mv ≡ false
  half-inside =
      refine-inside cost (whole_found whole_cost limit).mv 2
      (step_room _ 2 (omega arith) (omega arith) (diamond-inside whole_cost zero_mv limit) (diamond_multiple whole_cost zero_mv limit))

  pub never_11 : (out_of_range (whole_found whole_cost limit).mv ≡ false) × (out_of_range (half_found whole_cost cost limit).mv ≡ false)
  never_11 = (diamond-inside whole_cost zero_mv limit, half-inside)

  pub never_12 : (off_grid 4 (whole_found whole_cost limit).mv ≡ false) × (off_grid 2 (half_found whole_cost cost limit).mv ≡ false)
  never_12 = (diamond_multiple whole_cost zero_mv limit, half_multiple cost (whole_found whole_cost limit).mv (diamond_multiple whole_cost zero_mv limit))

  last-inside : out_of_range (last_found whole_cost cost limit).mv ≡ false
  last-inside = refine-inside cost (half_found whole_cost cost limit).mv 1 (step_room _ 1 (omega arith) (omega arith) half-inside never_12.1)

-- where neither 8, 9 nor 10 applies, and none of 23, 11 and 12, the calls for a macroblock are accepted
module _ (plane : Plane) (column row : ℕ) (size : bad_size plane ≡ false) (long : short_plane plane ≡ false) (place : bad_macroblock column row ≡ false) where
  pub fetch_accepted : macroblock_at plane (16 * column) (16 * row) zero_mv ≡ accepted (source_block plane column row)
  fetch_accepted =
      sym (also_accepted (fetch_lines plane (16 * column) (16 * row)) _ (size, (long, (origin_fits column row place, tt))))
      ∙ ap accepted (block_fetched plane column row)

  pub place-accepted : (d : DiamondResult) → first_of (place_lines plane column row) d ≡ accepted d
  place-accepted d = sym (also_accepted (place_lines plane column row) d (size, (long, (place, tt))))

  pub refine-accepted : (version n : ℕ) (v : Mv) (r : SearchResult) → bad_version version ≡ false → out_of_range v ≡ false → off_grid n v ≡ false
      → first_of (refine_lines version n plane column row v) r ≡ accepted r
  refine-accepted version n v r known range grid =
      sym (also_accepted (refine_lines version n plane column row v) r (known, (size, (long, (place, (range, (grid, tt)))))))

-- the searches one after the other, as the code makes them, are the definition's
pub searched_is : (set : FilterRows) (plane source : Plane) (limit column row : ℕ) (src : List ℕ) (w : DiamondResult) (h q : SearchResult)
    → src ≡ source_block source column row
    → w ≡ diamond (cost_of plane column row src) zero_mv limit
    → h ≡ refine (cost_in set plane column row src) 2 w.mv
    → q ≡ refine (cost_in set plane column row src) 1 h.mv
    → record { mv = q.mv; sad = q.sad; sads = w.sads + 18 } ≡ searched_at set plane source limit column row
unfolding searched_mb
searched_is set plane source limit column row src w h q a b c d = rw (d, c, b, a)

-- an accepted call: no line applies, the answer is the count, and the front of each list is given
module _ (version limit : ℕ) (bytes other : List ℕ) (stride apart width height : ℕ) (outcome : Outcome ℕ) (old held : Lists) (m : ℕ)
    (is : PictureSearched version limit (luma_plane bytes stride width height) (luma_plane other apart width height) outcome old held)
    (done : outcome ≡ accepted m) where
  abbrev plane : Plane
  plane = luma_plane bytes stride width height

  abbrev source : Plane
  source = luma_plane other apart width height

  found : picture_expected version plane source old ≡ accepted m
  found = sym is.answer ∙ done

  none_applies : Skipped (picture_lines version plane source old)
  none_applies = skipped (picture_lines version plane source old) (mb_count plane) m found

  pub counts : m ≡ mb_count plane
  counts = sym (answered (picture_lines version plane source old) (mb_count plane) m found)

  abbrev at : ℕ → SearchedMb
  at = picture_at (rows_for version) plane source limit

  rows-front : held.rows ≡ front (mb_count plane) (λ i. (at i).mv.row) old.rows
  rows-front = is.rows ∙ after-accepted old.rows _ found

  cols-front : held.cols ≡ front (mb_count plane) (λ i. (at i).mv.col) old.cols
  cols-front = is.cols ∙ after-accepted old.cols _ found

  sads-front : held.sads ≡ front (mb_count plane) (λ i. (at i).sad) old.sads
  sads-front = is.sads ∙ after-accepted old.sads _ found

  -- the single calls for the macroblock at a column and a row, made one after the other; entry i of the lists is the last one's answer
  pub record Single (column row i : ℕ) : Type 0 where
    pub block : List ℕ
    pub whole : DiamondResult
    pub half : SearchResult
    pub quarter : SearchResult
    pub fetched : macroblock_at source (16 * column) (16 * row) zero_mv ≡ accepted block
    pub first : first_of (place_lines plane column row) (diamond (cost_of plane column row block) zero_mv limit) ≡ accepted whole
    pub second : first_of (refine_lines version 4 plane column row whole.mv) (refine (cost_in (rows_for version) plane column row block) 2 whole.mv) ≡ accepted half
    pub third : first_of (refine_lines version 2 plane column row half.mv) (refine (cost_in (rows_for version) plane column row block) 1 half.mv) ≡ accepted quarter
    pub row_is : get_or held.rows i (pos 0) ≡ quarter.mv.row
    pub col_is : get_or held.cols i (pos 0) ≡ quarter.mv.col
    pub sad_is : get_or held.sads i 0 ≡ quarter.sad

  pub picture_single : (i : ℕ) → i < m → Single (i % mb_columns plane) (i / mb_columns plane) i
  unfolding picture_at searched_mb
  picture_single i h =
      let n = none_applies in
      let l : i < mb_count plane = rw (sym counts) h in
      let column = i % mb_columns plane in
      let row = i / mb_columns plane in
      let place = never_10 plane n.1.0 i l in
      let block = source_block source column row in
      let whole_cost = cost_of plane column row block in
      let cost = cost_in (rows_for version) plane column row block in
      let d = diamond whole_cost zero_mv limit in
      let r = refine cost 2 d.mv in
      let q = refine cost 1 r.mv in
      record {
        block = block;
        whole = d;
        half = r;
        quarter = q;
        fetched = fetch_accepted source column row n.1.0 n.1.1.1.0 place;
        first = place-accepted plane column row n.1.0 n.1.1.0 place d;
        second = refine-accepted plane column row n.1.0 n.1.1.0 place version 4 d.mv r n.0 (never_11 whole_cost cost limit).0 (never_12 whole_cost cost limit).0;
        third = refine-accepted plane column row n.1.0 n.1.1.0 place version 2 r.mv q n.0 (never_11 whole_cost cost limit).1 (never_12 whole_cost cost limit).1;
        row_is = ap (λ (xs : List ℤ). get_or xs i (pos 0)) rows-front ∙ front_at (mb_count plane) _ old.rows i (pos 0) l;
        col_is = ap (λ (xs : List ℤ). get_or xs i (pos 0)) cols-front ∙ front_at (mb_count plane) _ old.cols i (pos 0) l;
        sad_is = ap (λ (xs : List ℕ). get_or xs i 0) sads-front ∙ front_at (mb_count plane) _ old.sads i 0 l;
      }

  -- entries from the count on are what they were, and the lists are as long
  pub record Past : Type 0 where
    pub rows : (k : ℕ) → m ≤ k → get_or held.rows k (pos 0) ≡ get_or old.rows k (pos 0)
    pub cols : (k : ℕ) → m ≤ k → get_or held.cols k (pos 0) ≡ get_or old.cols k (pos 0)
    pub sads : (k : ℕ) → m ≤ k → get_or held.sads k 0 ≡ get_or old.sads k 0
    pub rows_long : length held.rows ≡ length old.rows
    pub cols-long : length held.cols ≡ length old.cols
    pub sads-long : length held.sads ≡ length old.sads

  pub past_the_count : Past
  past_the_count =
      let n = mb_count plane in
      let s = or_none _ _ none_applies.1.1.1.1.0 in
      let t = or_none _ _ s.1 in
      record {
        rows = λ k h. ap (λ (xs : List ℤ). get_or xs k (pos 0)) rows-front ∙ front-past n _ old.rows k (pos 0) (rw (sym counts) h);
        cols = λ k h. ap (λ (xs : List ℤ). get_or xs k (pos 0)) cols-front ∙ front-past n _ old.cols k (pos 0) (rw (sym counts) h);
        sads = λ k h. ap (λ (xs : List ℕ). get_or xs k 0) sads-front ∙ front-past n _ old.sads k 0 (rw (sym counts) h);
        rows_long = ap length rows-front ∙ front_length n _ old.rows (ltb-false (length old.rows) n s.0);
        cols-long = ap length cols-front ∙ front_length n _ old.cols (ltb-false (length old.cols) n t.0);
        sads-long = ap length sads-front ∙ front_length n _ old.sads (ltb-false (length old.sads) n t.1);
      }

-- on a refusal all entries are what they were
pub refused_keeps : {A : Type 0} (expected outcome : Outcome A) (n : ℕ) (at : ℕ → SearchedMb) (old held : Lists) (k : ℕ) (v : List ℕ)
    → PictureIs expected n at outcome old held → outcome ≡ refused k v → (held.rows ≡ old.rows) × ((held.cols ≡ old.cols) × (held.sads ≡ old.sads))
refused_keeps expected outcome n at old held k v is e =
    let f = sym is.answer ∙ e in
    (is.rows ∙ after-refused old.rows _ f, (is.cols ∙ after-refused old.cols _ f, is.sads ∙ after-refused old.sads _ f))

-- every entry is a vector in range
pub entry-inside : (set : FilterRows) (plane source : Plane) (limit column row : ℕ) → out_of_range (searched_at set plane source limit column row).mv ≡ false
unfolding searched_mb
entry-inside set _ _ limit column row = last-inside _ _ limit

-- and a SAD of at most 65280, and no macroblock takes more than 261143 SADs
module _ (plane source : Plane) (limit column row : ℕ) (bytes : (k : ℕ) → get_or source.bytes k 0 < 256) where
  pub entry-most : (set : FilterRows) → (searched_at set plane source limit column row).sad ≤ 65280
  unfolding searched_mb
  entry-most set =
      rw (refine-sad (cost_in set plane column row (source_block source column row)) 1 _)
      (cost_most_in set plane column row (source_block source column row) _ (block-byte source column row bytes))

  pub sads-few : (set : FilterRows) → (searched_at set plane source limit column row).sads ≤ 261143
  unfolding searched_mb
  sads-few set = omega (arith, luma_sads plane column row (source_block source column row) (block-byte source column row bytes) zero_mv limit)

-- a start without a difference is never left, by the diamond or by a refinement
stays : (cost : Mv → ℕ) (limit : ℕ) (b : DiamondResult) → Good cost b → b.sad ≡ 0 → (descend cost limit b).mv ≡ b.mv
unfolding descend
stays cost zero b g e = refl
stays cost (suc limit) b g e = go (λ h. stays cost limit (round_of cost b) (round_is cost b g).good h) (same_mv (round_of cost b).mv b.mv)
  where
    round : (round_of cost b).mv ≡ b.mv
    round = (round_is cost b g).still (omega arith)

    go : ((round_of cost b).sad ≡ 0 → (descend cost limit (round_of cost b)).mv ≡ (round_of cost b).mv) → (t : Bool)
        → (cond t (round_of cost b) (descend cost limit (round_of cost b))).mv ≡ b.mv
    go ih true = round
    go ih false = ih (omega (arith, (round_is cost b g).fewer)) ∙ round

diamond_stays : (cost : Mv → ℕ) (centre : Mv) (limit : ℕ) → cost (gridded centre) ≡ 0 → (diamond cost centre limit).mv ≡ gridded centre
unfolding diamond start_at
diamond_stays cost centre limit e = stays cost limit (start_at cost centre) (start_good cost centre) e

refine_stays : (cost : Mv → ℕ) (step : ℕ) (centre : Mv) → cost centre ≡ 0 → (refine cost step centre).mv ≡ centre
refine_stays cost step centre e = ⊎_elim (λ s. s) (λ c. absurd (less c)) (refine_best cost step centre).which
  where
    less : Chosen cost centre (raster_of centre step) 8 (refine cost step centre).mv → ⊥
    less c = omega (arith, c.better)

-- a block differs from itself by 0, and at the zero vector its prediction is the block itself
sad_self : (a : List ℕ) → sad16 a a ≡ 0
unfolding sad16
sad_self a = omega (arith, sum-most (λ i. distance (get_or a i 0) (get_or a i 0)) 256 0 (λ i. omega arith))

own_cost : (set : FilterRows) → Identity set → (p : Plane) (column row : ℕ) → ((k : ℕ) → get_or p.bytes k 0 < 256)
    → cost_in set p column row (source_block p column row) zero_mv ≡ 0
unfolding cost_in
own_cost set whole p column row bytes =
    ap (sad16 (source_block p column row)) (sym (copied_mb set whole p (16 * column) (16 * row) (stored_mv zero_mv) refl refl bytes) ∙ block_fetched p column row)
    ∙ sad_self (source_block p column row)

-- a picture that is searched in itself
pub same-picture : (version limit i : ℕ) (p : Plane) → ((k : ℕ) → get_or p.bytes k 0 < 256)
    → ((picture_at (rows_for version) p p limit i).mv ≡ zero_mv) × ((picture_at (rows_for version) p p limit i).sad ≡ 0)
unfolding picture_at searched_mb
same-picture version limit i p bytes = (last, refine-sad cost 1 half ∙ ap cost last ∙ none)
  where
    column : ℕ
    column = i % mb_columns p

    row : ℕ
    row = i / mb_columns p

    whole_cost : Mv → ℕ
    whole_cost = cost_of p column row (source_block p column row)

    cost : Mv → ℕ
    cost = cost_in (rows_for version) p column row (source_block p column row)

    half : Mv
    half = (refine cost 2 (diamond whole_cost zero_mv limit).mv).mv

    none : cost zero_mv ≡ 0
    none = own_cost (rows_for version) (taps_whole (filter_set_of version)) p column row bytes

    first : (diamond whole_cost zero_mv limit).mv ≡ zero_mv
    first = diamond_stays whole_cost zero_mv limit (own_cost (rows_for 0) (taps_whole (filter_set_of 0)) p column row bytes)

    second : half ≡ zero_mv
    second = ap (λ (v : Mv). (refine cost 2 v).mv) first ∙ refine_stays cost 2 zero_mv none

    last : (refine cost 1 half).mv ≡ zero_mv
    last = ap (λ (v : Mv). (refine cost 1 v).mv) second ∙ refine_stays cost 1 zero_mv none

-- the order of the lines. In each of the first four rows two of them apply, and the earlier is given
abbrev empty : Lists
empty = lists [] [] []

abbrev one : Lists
one = lists (pos 7 ∷ []) (pos 7 ∷ []) (7 ∷ [])

abbrev two : Lists
two = lists (pos 7 ∷ pos 7 ∷ []) (pos 7 ∷ pos 7 ∷ []) (7 ∷ 7 ∷ [])

-- two rows of 2 with a stride of 3 need 5 bytes of the source, whatever the reference's stride
abbrev apart_by3 : List ℕ → Outcome ℕ
apart_by3 bytes = picture_expected 0 (luma_plane (0 ∷ 0 ∷ 0 ∷ 0 ∷ []) 2 2 2) (luma_plane bytes 3 2 2) one

-- 17 columns have two macroblocks, and each list needs two entries
abbrev wide : Lists → Outcome ℕ
wide l = picture_expected 0 (luma_plane (replicate 17 0) 17 17 1) (luma_plane (replicate 17 0) 0 17 1) l

pub lines : (
    (picture_expected 3 (luma_plane [] 1 0 1) (luma_plane [] 1 0 1) empty ≡ refused 23 [])
    × (picture_expected 2 (luma_plane [] 1 0 2) (luma_plane [] 0 0 2) empty ≡ refused 8 [])
    × (picture_expected 2 (luma_plane [] 1 1 1) (luma_plane [] 1 1 1) one ≡ refused 9 [])
    × (picture_expected 2 (luma_plane (0 ∷ []) 1 1 1) (luma_plane [] 1 1 1) empty ≡ refused 14 [])
    × (apart_by3 (0 ∷ 0 ∷ 0 ∷ 0 ∷ []) ≡ refused 14 [])
    × (apart_by3 (0 ∷ 0 ∷ 0 ∷ 0 ∷ 0 ∷ []) ≡ accepted 1)
    × (wide (lists one.rows two.cols two.sads) ≡ refused 15 [])
    × (wide (lists two.rows one.cols two.sads) ≡ refused 15 [])
    × (wide (lists two.rows two.cols one.sads) ≡ refused 15 [])
    × (wide two ≡ accepted 2)
    )
lines = (refl, refl, refl, refl, refl, refl, refl, refl, refl, refl)

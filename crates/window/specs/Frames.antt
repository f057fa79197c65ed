-- Frames as numbers: eight for each frame, document 01's seven in its order and then the cap of request 7. Assumes nothing.
use Rattle.std.specs.Prelude.{cond, List, ℕ, zero, suc, ◌+◌, ◌*◌, ◌/◌, ltb, length, get_or}
use Rattle.prediction.specs.Plane.{Plane}
use Rattle.window.specs.declared.Frame.{Frame}
use Rattle.window.specs.Layout.{side_of}

-- the numbers of one frame
abbrev pub numbers_per_frame : ℕ
numbers_per_frame = 8

-- the frame count; numbers left over are not read
abbrev pub frame_count : List ℕ → ℕ
frame_count numbers = length numbers / numbers_per_frame

-- number k of frame g; from the frame count on there is none, and 0 stands for it
unfoldable pub number_at : List ℕ → ℕ → ℕ → ℕ
number_at numbers g k = cond (ltb g (frame_count numbers)) (get_or numbers (g * numbers_per_frame + k) 0) 0

-- frame g: width, height, start of Y, of U, of V, luma stride, chroma stride, cap; from the frame count on, the frame of zeros
abbrev pub frame_at : List ℕ → ℕ → Frame
frame_at numbers g =
    record {
      width = number_at numbers g 0;
      height = number_at numbers g 1;
      y = number_at numbers g 2;
      u = number_at numbers g 3;
      v = number_at numbers g 4;
      luma_stride = number_at numbers g 5;
      chroma_stride = number_at numbers g 6;
      cap = number_at numbers g 7;
    }

-- the frame of zeros
abbrev pub zero_frame : Frame
zero_frame = record { width = 0; height = 0; y = 0; u = 0; v = 0; luma_stride = 0; chroma_stride = 0; cap = 0 }

-- where a plane starts, and its stride
abbrev pub start_of : ℕ → Frame → ℕ
start_of zero f = f.y
start_of (suc zero) f = f.u
start_of (suc (suc k)) f = f.v

abbrev pub stride_of : ℕ → Frame → ℕ
stride_of zero f = f.luma_stride
stride_of (suc k) f = f.chroma_stride

-- plane k of a frame in the picture bytes
abbrev pub plane_of : List ℕ → Frame → ℕ → Plane
plane_of bytes f k =
    record { bytes = bytes; start = start_of k f; stride = stride_of k f; columns = side_of k f.width; rows = side_of k f.height }

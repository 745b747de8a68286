-- The bytes are heads and frames, computed.
use Rattle.std.proofs.Common.{refl, arith, [], ◌∷◌}
use Rattle.fv_plane.specs.Picture.{wide_bytes, wide_samples, bytes_of_row, row_of_bytes, in_range}
use Rattle.fv_plane.specs.Info.{gcd}
use Rattle.y4m_stream.specs.Head.{parameter_fault, info_of}
use Rattle.row_laws.specs.SmallStreams.{AreStreams}

pub are_streams : AreStreams
unfolding parameter_fault info_of gcd wide_bytes wide_samples bytes_of_row row_of_bytes in_range
are_streams = record {
  m4_is = record {
    frames = (0 ∷ []) ∷ (1 ∷ []) ∷ (2 ∷ []) ∷ (3 ∷ []) ∷ [];
    consists = record {
      head = refl;
      info_is = refl;
      frames_are =
          (_, record { good = refl; whole = refl; frame_is = refl; rest_is = refl }, (_, record { good = refl; whole = refl; frame_is = refl; rest_is = refl }, (_, record { good = refl; whole = refl; frame_is = refl; rest_is = refl }, (_, record { good = refl; whole = refl; frame_is = refl; rest_is = refl }, refl))));
      some = omega arith;
      most = omega arith;
    };
    pictures_are = refl;
  };
  m1_is = record {
    frames = (9 ∷ []) ∷ [];
    consists = record {
      head = refl;
      info_is = refl;
      frames_are = (_, record { good = refl; whole = refl; frame_is = refl; rest_is = refl }, refl);
      some = omega arith;
      most = omega arith;
    };
    pictures_are = refl;
  };
  p_is = record {
    frames = (16 ∷ 32 ∷ 48 ∷ 64 ∷ 128 ∷ 144 ∷ []) ∷ [];
    consists = record {
      head = refl;
      info_is = refl;
      frames_are = (_, record { good = refl; whole = refl; frame_is = refl; rest_is = refl }, refl);
      some = omega arith;
      most = omega arith;
    };
    pictures_are = refl;
  };
  q_is = record {
    frames = (16 ∷ 32 ∷ 48 ∷ 64 ∷ 128 ∷ 144 ∷ []) ∷ [];
    consists = record {
      head = refl;
      info_is = refl;
      frames_are = (_, record { good = refl; whole = refl; frame_is = refl; rest_is = refl }, refl);
      some = omega arith;
      most = omega arith;
    };
    pictures_are = refl;
  };
  d10_is = record {
    frames = (1 ∷ 2 ∷ 0 ∷ 8 ∷ []) ∷ [];
    consists = record {
      head = refl;
      info_is = refl;
      frames_are = (_, record { good = refl; whole = refl; frame_is = refl; rest_is = refl }, refl);
      some = omega arith;
      most = omega arith;
    };
    pictures_are = refl;
  };
}

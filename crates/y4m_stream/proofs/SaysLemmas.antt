-- What the parameters say, and their first fault.
use Rattle.std.proofs.Common.{◌≡◌, ℕ, ◌<◌, ◌≤◌, List, Some, None, true, false, inl, inr, refl}
use Rattle.std.proofs.lemmas.Bool.{lt-ltb, le-ltb, cases_lt}
use Rattle.fv_plane.specs.declared.format_names.Format.{Format}
use Rattle.fv_plane.specs.declared.format.Tag.{Tag}
use Rattle.fv_plane.specs.declared.format.Shape.{Shape}
use Rattle.fv_plane.specs.declared.format.Info.{Info}
use Rattle.fv_plane.specs.Format.{IsLegal, frame_bytes, has_depth, has_whole_sides}
use Rattle.y4m_stream.specs.declared.fault.Y4mFault.TheVariants.{NoSize, BadNumber, UnknownColour, BadSize, TooLarge}
use Rattle.fv_plane.proofs.CallerLemmas.{legal_by}
use Rattle.y4m_stream.specs.Head.{value, number, rate, par, colour, field_of, info_of, parameter_fault}

module _ (ps : List (List ℕ)) where
  pub no_width : value 87 ps ≡ None → parameter_fault ps ≡ Some NoSize
  unfolding parameter_fault
  no_width is = rw is refl

  pub no_height : (w : List ℕ) → value 87 ps ≡ Some w → value 72 ps ≡ None → parameter_fault ps ≡ Some NoSize
  unfolding parameter_fault
  no_height w has_w is = rw (has_w, is) refl

  module _ (w h : List ℕ) (has_w : value 87 ps ≡ Some w) (has_h : value 72 ps ≡ Some h) where
    pub bad_width : number w ≡ None → parameter_fault ps ≡ Some (BadNumber 87)
    unfolding parameter_fault
    bad_width is = rw (has_w, has_h, is) refl

    module _ (x : ℕ) (is_x : number w ≡ Some x) where
      pub bad_height : number h ≡ None → parameter_fault ps ≡ Some (BadNumber 72)
      unfolding parameter_fault
      bad_height is = rw (has_w, has_h, is_x, is) refl

      module _ (y : ℕ) (is_y : number h ≡ Some y) where
        pub bad_rate : rate ps ≡ None → parameter_fault ps ≡ Some (BadNumber 70)
        unfolding parameter_fault
        bad_rate is = rw (has_w, has_h, is_x, is_y, is) refl

        module _ (r : ℕ × ℕ) (is_r : rate ps ≡ Some r) where
          pub bad_par : par ps ≡ None → parameter_fault ps ≡ Some (BadNumber 65)
          unfolding parameter_fault
          bad_par is = rw (has_w, has_h, is_x, is_y, is_r, is) refl

          module _ (p : ℕ × ℕ) (is_p : par ps ≡ Some p) where
            pub bad_colour : colour ps ≡ None → parameter_fault ps ≡ Some UnknownColour
            unfolding parameter_fault
            bad_colour is = rw (has_w, has_h, is_x, is_y, is_r, is_p, is) refl

            module _ (k : Format × Tag) (is_k : colour ps ≡ Some k) where
              abbrev pub said : Info
              said = record { shape = record { kind = k.0.kind; bits = k.0.bits; width = x; height = y }; frames = 0; num = r.0; den = r.1; field = field_of (value 73 ps); par = record { num = p.0; den = p.1 }; tag = k.1 }

              pub info_is : info_of ps ≡ said
              unfolding info_of
              info_is = rw (has_w, has_h, is_x, is_y, is_r, is_p, is_k) refl

              pub bad_sides : has_whole_sides said.shape ≡ false → parameter_fault ps ≡ Some BadSize
              unfolding parameter_fault
              bad_sides is = rw (info_is, has_w, has_h, is_x, is_y, is_r, is_p, is_k, is) refl

              pub too_large : has_whole_sides said.shape ≡ true → 16777216 < frame_bytes said.shape → parameter_fault ps ≡ Some TooLarge
              unfolding parameter_fault
              too_large good large = rw (info_is, has_w, has_h, is_x, is_y, is_r, is_p, is_k, good, lt-ltb 16777216 (frame_bytes said.shape) large) refl

              pub no_fault : has_whole_sides said.shape ≡ true → frame_bytes said.shape ≤ 16777216 → parameter_fault ps ≡ None
              unfolding parameter_fault
              no_fault good small = rw (info_is, has_w, has_h, is_x, is_y, is_r, is_p, is_k, good, le-ltb 16777216 (frame_bytes said.shape) small) refl

-- sides that are good and no legal shape: a frame is too large
pub large_by : (shape : Shape) → has_depth shape.kind shape.bits ≡ true → has_whole_sides shape ≡ true → (IsLegal shape → ⊥) → 16777216 < frame_bytes shape
large_by shape depth good illegal = elim (cases_lt 16777216 (frame_bytes shape)) [
  | inl large ↦ large
  | inr small ↦ absurd (illegal (legal_by shape depth good small))
]

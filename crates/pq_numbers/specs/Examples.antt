-- Numbers as the standards spell them, and texts that spell none.
use Rattle.std.specs.Prelude.{◌≡◌, ◌^◌, ℕ, pos, negsuc, [], ◌∷◌, Some, None}
use Rattle.pq_numbers.specs.Bits.{unpacked, packed_number, bytes_for, IsWidth}
use Rattle.pq_numbers.specs.Texts.{number_of}
use Rattle.pq_numbers.specs.Varint.{IsNumber, varint_at, varint}
use Rattle.pq_numbers.specs.Zigzag.{zigzag, unzigzag, IsSigned}

pub record AreWorked : Type 0 where
  -- 300 is 10101100 00000010, lowest seven bits first
  pub spelled : IsNumber (172 ∷ 2 ∷ []) 300
  pub padded : IsNumber (172 ∷ 130 ∷ 0 ∷ []) 300
  pub read : varint_at (172 ∷ 2 ∷ 9 ∷ []) ≡ Some (300, 9 ∷ [])
  pub written : varint 300 ≡ 172 ∷ 2 ∷ []
  pub cut : (n : ℕ) → IsNumber (172 ∷ []) n → ⊥
  pub unread : varint_at (172 ∷ []) ≡ None
  -- eleven bytes, and 2 ^ 64
  pub long : varint_at (128 ∷ 128 ∷ 128 ∷ 128 ∷ 128 ∷ 128 ∷ 128 ∷ 128 ∷ 128 ∷ 128 ∷ 0 ∷ []) ≡ None
  pub large : varint_at (128 ∷ 128 ∷ 128 ∷ 128 ∷ 128 ∷ 128 ∷ 128 ∷ 128 ∷ 128 ∷ 2 ∷ []) ≡ None
  pub zero_up : (unzigzag 0 ≡ pos 0) × (unzigzag 1 ≡ negsuc 0) × (unzigzag 2 ≡ pos 1) × (unzigzag 3 ≡ negsuc 1)
  pub back : (zigzag (pos 0) ≡ 0) × (zigzag (negsuc 0) ≡ 1) × (zigzag (pos 1) ≡ 2) × (zigzag (negsuc 1) ≡ 3)
  pub signed : IsSigned (2 ^ 64) (3 ∷ []) (negsuc 1)
  pub little : number_of (1 ∷ 2 ∷ 0 ∷ []) ≡ 513
  -- the numbers 0 to 7 in three bits each
  pub packed : unpacked 3 8 (136 ∷ 198 ∷ 250 ∷ []) ≡ 0 ∷ 1 ∷ 2 ∷ 3 ∷ 4 ∷ 5 ∷ 6 ∷ 7 ∷ []
  pub sixth : packed_number 3 5 (136 ∷ 198 ∷ 250 ∷ []) ≡ 5
  pub no_bits : unpacked 0 2 (136 ∷ []) ≡ 0 ∷ 0 ∷ []
  pub sizes : (bytes_for 0 ≡ 0) × (bytes_for 1 ≡ 1) × (bytes_for 8 ≡ 1) × (bytes_for 9 ≡ 2)
  pub widths : IsWidth 0 0 × IsWidth 1 1 × IsWidth 255 8 × IsWidth 256 9
  pub too_wide : IsWidth 255 9 → ⊥

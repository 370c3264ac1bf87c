-- What is read where n numbers of w bits are called for: each number that is there, and an error in the place of the first that isn't.
use Rattle.std.specs.Prelude.{ℕ, zero, suc, ◌-◌, ◌*◌, ◌/◌, ◌%◌, min, List, [], ◌∷◌, ◌++◌, length, take, drop, map, replicate, Option, Some, None, Result, Ok, Err, nat_lt, nat_eq, if◌then◌else◌}
use Rattle.columns_base.specs.declared.error.Error.{Error}
use Rattle.columns_base.specs.declared.error.Error.TheVariants.{OutOfSpec}
use Rattle.columns_base.specs.declared.error.S.TheVariants.{S6}
use Rattle.pq_numbers.specs.Bits.{bytes_for, unpacked}
use Rattle.pq_numbers.specs.Texts.{number_of}
use Rattle.pq_numbers.specs.Varint.{varint_at}

abbrev pub fault : Error
fault = OutOfSpec S6

abbrev pub Item : Type 0
Item = Result ℕ Error

-- the items that give each number of the list
abbrev pub given : List ℕ → List Item
given xs = map Ok xs

abbrev pub Reader : Type 0
Reader = ℕ → List ℕ → List Item

-- m copies of v, of which n are called for; others reads on
abbrev pub copies_items : Reader → ℕ → ℕ → ℕ → List ℕ → List Item
copies_items others n m v rest = if nat_lt m n then replicate m (Ok v) ++ others (n - m) rest else replicate n (Ok v)

abbrev pub copies_at : Reader → ℕ → ℕ → ℕ → List ℕ → List Item
copies_at others w n m bytes =
    if nat_lt (length bytes) (bytes_for w) then Err fault ∷ []
    else copies_items others n m (number_of (take (bytes_for w) bytes)) (drop (bytes_for w) bytes)

-- g groups in a body, which may be cut: k numbers stand in it
abbrev pub groups_items : Reader → ℕ → ℕ → ℕ → ℕ → List ℕ → List ℕ → List Item
groups_items others w n g k body rest =
    if nat_lt k n then map Ok (unpacked w k body) ++ (if nat_lt k (8 * g) then Err fault ∷ [] else others (n - k) rest)
    else map Ok (unpacked w n body)

abbrev pub standing : ℕ → ℕ → List ℕ → ℕ
standing w g body = min (8 * g) (8 * length body / w)

abbrev pub groups_at : Reader → ℕ → ℕ → ℕ → List ℕ → List Item
groups_at others w n g bytes = groups_items others w n g (standing w g (take (w * g) bytes)) (take (w * g) bytes) (drop (w * g) bytes)

abbrev pub run_at : Reader → ℕ → ℕ → Option (ℕ × List ℕ) → List Item
run_at others w n None = Err fault ∷ []
run_at others w n (Some head) = if nat_eq (head.0 % 2) 0 then copies_at others w n (head.0 / 2) head.1 else groups_at others w n (head.0 / 2) head.1

-- the first number bounds the runs: that of the bytes is always enough, since each run has a byte
unfoldable pub runs_items : ℕ → ℕ → Reader
runs_items zero w n bytes = if nat_eq n 0 then [] else Err fault ∷ []
runs_items (suc fuel) w n bytes = if nat_eq n 0 then [] else run_at (runs_items fuel w) w n (varint_at bytes)

-- no bits, no bytes
unfoldable pub hybrid : ℕ → ℕ → List ℕ → List Item
hybrid w n bytes = if nat_eq w 0 then replicate n (Ok 0) else runs_items (length bytes) w n bytes

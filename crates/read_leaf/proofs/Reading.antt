-- Plain numbers, one after another.
use Rattle.std.proofs.Common.{◌≡◌, ℕ, suc, ◌+◌, ◌-◌, ◌*◌, ◌<◌, ◌≤◌, ℤ, Option, Some, None, List, [], ◌∷◌, ◌++◌, map, length, take, drop, refl, arith, ap, sym, ◌∙◌, append_assoc, append-nil, length-append}
use Rattle.std.proofs.lemmas.List.{map-append, length-drop, drop-drop}
use Rattle.read_leaf.specs.Numbers.{plain_numbers, TookNumbers, OneIsOutside}

module _ (loaded : ℤ → Option ℤ) (spelled : List ℕ → ℤ) (size : ℕ) where
  -- so many numbers taken, of n
  pub record IsReading (i n : ℕ) (bytes rest : List ℕ) (old new : List ℤ) : Type 0 where
    pub numbers : List ℤ
    pub count : length numbers ≡ i
    pub are : map loaded (plain_numbers spelled size n bytes) ≡ map Some numbers ++ map loaded (plain_numbers spelled size (n - i) rest)
    pub pushed : new ≡ old ++ numbers
    pub behind : rest ≡ drop (size * i) bytes

  pub nothing-read : (n : ℕ) (bytes : List ℕ) (old : List ℤ) → IsReading 0 n bytes bytes old old
  nothing-read n bytes old =
      let none : size * 0 ≡ 0 = omega arith in
      let all : n - 0 ≡ n = omega arith in
      record { numbers = []; count = refl; are = rw all refl; pushed = sym (append-nil old); behind = rw none refl }

  next : (i n : ℕ) (rest : List ℕ) → i < n → plain_numbers spelled size (n - i) rest ≡ spelled (take size rest) ∷ plain_numbers spelled size (n - (i + 1)) (drop size rest)
  next i n rest h = let e : n - i ≡ suc (n - (i + 1)) = omega (arith, h) in rw e refl

  pub one-read : (i n : ℕ) (bytes rest behind : List ℕ) (old new new' : List ℤ) (z : ℤ) → i < n → IsReading i n bytes rest old new → loaded (spelled (take size rest)) ≡ Some z → behind ≡ drop size rest → new' ≡ new ++ z ∷ [] → IsReading (i + 1) n bytes behind old new'
  one-read i n bytes rest behind old new new' z h r l b e =
      let more : map loaded (plain_numbers spelled size (n - i) rest) ≡ Some z ∷ map loaded (plain_numbers spelled size (n - (i + 1)) behind) = rw (next i n rest h, l, b) refl in
      let place : size + size * i ≡ size * (i + 1) = omega arith in
      record {
        numbers = r.numbers ++ z ∷ [];
        count = omega (arith, length-append r.numbers (z ∷ []), r.count);
        are = r.are ∙ (ap (λ (t : List (Option ℤ)). map Some r.numbers ++ t) more ∙ (sym (append_assoc (map Some r.numbers) (Some z ∷ []) (map loaded (plain_numbers spelled size (n - (i + 1)) behind))) ∙ ap (λ (t : List (Option ℤ)). t ++ map loaded (plain_numbers spelled size (n - (i + 1)) behind)) (sym (map-append Some r.numbers (z ∷ [])))));
        pushed = e ∙ (ap (λ (t : List ℤ). t ++ z ∷ []) r.pushed ∙ append_assoc old r.numbers (z ∷ []));
        behind = b ∙ (ap (drop size) r.behind ∙ (drop-drop size (size * i) bytes ∙ ap (λ (k : ℕ). drop k bytes) (sum place)));
      }
    where
      sum : size + size * i ≡ size * (i + 1) → size * i + size ≡ size * (i + 1)
      sum e = omega (arith, e)

  pub one-outside : (i n : ℕ) (bytes rest : List ℕ) (old new : List ℤ) → i < n → IsReading i n bytes rest old new → loaded (spelled (take size rest)) ≡ None → OneIsOutside loaded spelled size n bytes
  one-outside i n bytes rest old new h r l =
      let more : map loaded (plain_numbers spelled size (n - i) rest) ≡ None ∷ map loaded (plain_numbers spelled size (n - (i + 1)) (drop size rest)) = rw (next i n rest h, l) refl in
      record {
        numbers = r.numbers;
        others = map loaded (plain_numbers spelled size (n - (i + 1)) (drop size rest));
        are = r.are ∙ ap (λ (t : List (Option ℤ)). map Some r.numbers ++ t) more;
        within = omega (arith, r.count, h);
      }

  pub enough-left : (i n : ℕ) (bytes rest : List ℕ) → i < n → size * n ≤ length bytes → rest ≡ drop (size * i) bytes → size ≤ length rest
  enough-left i n bytes rest h k e =
      let m : n ≡ i + 1 + (n - (i + 1)) = omega (arith, h) in
      let all : size * n ≡ size * i + size + size * (n - (i + 1)) = ap (λ (j : ℕ). size * j) m ∙ omega arith in
      rw e (omega (arith, length-drop (size * i) bytes, all, k))

  pub all-read : (i n : ℕ) (bytes rest : List ℕ) (old new : List ℤ) → i ≡ n → IsReading i n bytes rest old new → TookNumbers loaded spelled size n bytes rest old new
  all-read i n bytes rest old new e r =
      let none : n - i ≡ 0 = omega (arith, e) in
      record {
        numbers = r.numbers;
        count = r.count ∙ e;
        are = r.are ∙ (ap (λ (k : ℕ). map Some r.numbers ++ map loaded (plain_numbers spelled size k rest)) none ∙ append-nil (map Some r.numbers));
        pushed = r.pushed;
        behind = r.behind ∙ ap (λ (k : ℕ). drop (size * k) bytes) e;
      }

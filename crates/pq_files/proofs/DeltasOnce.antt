-- The delta spelling has one reading.
use Rattle.std.proofs.Common.{◌≡◌, ◌⊎◌, ℕ, zero, suc, ◌+◌, ◌-◌, ◌*◌, ◌/◌, ◌^◌, ◌<◌, ◌≤◌, ℤ, pos, ◌+ℤ◌, Bool, true, false, List, [], ◌∷◌, ◌++◌, length, map, refl, sym, ap, subst, ◌∙◌, inl, inr, arith}
use Rattle.std.specs.Int.{Width, w32}
use Rattle.std.specs.List.{flat_map}
use Rattle.std.proofs.Math.Nat.{mul-div_cancel_left}
use Rattle.std.proofs.lemmas.List.{append_assoc, append-nil, length-append, length-map}
use Rattle.std.proofs.lemmas.Option.{same_Some}
use Rattle.pq_numbers.specs.Bits.{unpacked}
use Rattle.pq_numbers.specs.Texts.{number_of, Begins}
use Rattle.pq_numbers.specs.Varint.{IsNumber, varint_at}
use Rattle.pq_numbers.specs.Zigzag.{unzigzag, IsSigned}
use Rattle.pq_numbers.proofs.Digits.{length-digits, unpacked-append}
use Rattle.pq_numbers.proofs.Numbers.{number_again}
use Rattle.pq_runs.specs.Delta.{Miniblocks, whole, last, Blocks, block, sums, IsSums, IsDelta}
use Rattle.shredding.specs.Slot.{Value, number, bytes}
use Rattle.pq_metadata.proofs.Injective.{cons_same, pos_same}
use Rattle.pq_files.specs.Delta.{AreDeltas, AreDeltaLengths}
use Rattle.pq_files.proofs.Unique.{append_same}

-- ---- numbers

record SameText (a b x y : List ℕ) : Type 0 where
  pub texts : a ≡ b
  pub rests : x ≡ y

from_rests : (a b x y : List ℕ) → x ≡ y → a ++ x ≡ b ++ y → SameText a b x y
from_rests a b x y r e =
    let sizes : length a ≡ length b = omega (arith, ap length e, length-append a x, length-append b y, ap length r) in
    record { texts = (append_same a b x y sizes e).0; rests = r }

number_once : (a b x y : List ℕ) (n m : ℕ) → IsNumber a n → IsNumber b m → a ++ x ≡ b ++ y → (n ≡ m) × SameText a b x y
number_once a b x y n m h k e =
    let read = same_Some (n, x) (m, y) (sym (number_again a n x h) ∙ ap varint_at e ∙ number_again b m y k) in
    (ap (λ p. p.0) read, from_rests a b x y (ap (λ p. p.1) read) e)

signed_once : (limit : ℕ) (a b x y : List ℕ) (z w : ℤ) → IsSigned limit a z → IsSigned limit b w → a ++ x ≡ b ++ y → (z ≡ w) × SameText a b x y
signed_once limit a b x y z w h k e =
    let s = number_once a b x y h.n k.n h.number k.number e in
    (h.is ∙ ap unzigzag s.0 ∙ sym k.is, s.1)

-- ---- miniblocks

packed_length : (w n : ℕ) (body : List ℕ) → length (unpacked w n body) ≡ n
packed_length w n body = length-digits (2 ^ w) n (number_of body)

minis_short : (c : Bool) (n : ℕ) (widths body ns : List ℕ) → Miniblocks c n widths body ns → length ns ≤ length widths * n
minis_short c n _ _ _ (Miniblocks.no_more widths) = omega arith
minis_short c n _ _ _ (whole w widths body rest ns h e more) =
    omega (arith, minis_short c n widths rest ns more, length-append (unpacked w n body) ns, packed_length w n body)
minis_short c n _ _ _ (last w k widths body h some fits enough within cut) = omega (arith, fits, packed_length w k body)

minis_none : (c : Bool) (n : ℕ) (widths body ns : List ℕ) → 0 < n → length ns ≡ 0 → Miniblocks c n widths body ns → (body ≡ []) × (ns ≡ [])
minis_none c n _ _ _ p z (Miniblocks.no_more widths) = (refl, refl)
minis_none c n _ _ _ p z (whole w widths body rest ns h e more) = absurd (omega (arith, p, z, length-append (unpacked w n body) ns, packed_length w n body))
minis_none c n _ _ _ p z (last w k widths body h some fits enough within cut) = absurd (omega (arith, some, z, packed_length w k body))

-- the bodies end at one place where they may not be cut, or where the block is full
abbrev pub IsShut : Bool → ℕ → List ℕ → List ℕ → Type 0
IsShut c n widths ns = (c ≡ false) ⊎ (length ns ≡ length widths * n)

record SameMinis (c : Bool) (n : ℕ) (widths body body' ns ms : List ℕ) : Type 0 where
  pub numbers : ns ≡ ms
  pub bodies : IsShut c n widths ns → body ≡ body'

not_cut : (c : Bool) {A : Type 0} → c ≡ false → (c ≡ true) ⊎ A → A
not_cut c f (inl t) = absurd (both c f t)
  where
    both : (c : Bool) → c ≡ false → c ≡ true → ⊥
    both c f t = cc (f, t)
not_cut c f (inr a) = a

whole_length : (w n : ℕ) (a b : List ℕ) → 8 * length a ≡ w * n → 8 * length b ≡ w * n → length a ≡ length b
whole_length w n a b h k = omega (arith, h, k)

-- the last miniblock of a full block is whole
shut_whole : (c : Bool) (n w k : ℕ) (widths body : List ℕ) → 0 < n → k ≤ n → w * k ≤ 8 * length body → 8 * length body ≤ w * n → (c ≡ true) ⊎ (8 * length body ≡ w * n) → (c ≡ false) ⊎ (k ≡ suc (length widths) * n) → 8 * length body ≡ w * n
shut_whole c n w k widths body p fits enough within cut (inl f) = not_cut c f cut
shut_whole c n w k widths body p fits enough within cut (inr full) =
    let e : k ≡ n = omega (arith, fits, full) in
    omega (arith, within, subst (λ (j : ℕ). w * j ≤ 8 * length body) e enough)

minis_same : (c : Bool) (n : ℕ) (ws vs body body' ns ms x y : List ℕ) → 0 < n → ws ≡ vs → body ++ x ≡ body' ++ y → length ns ≡ length ms → Miniblocks c n ws body ns → Miniblocks c n vs body' ms → SameMinis c n ws body body' ns ms
minis_same c n _ _ _ _ _ _ x y p we e l (Miniblocks.no_more ws) (Miniblocks.no_more vs) = record { numbers = refl; bodies = λ s. refl }
minis_same c n _ _ _ _ _ _ x y p we e l (Miniblocks.no_more ws) (whole w widths body rest ns h k more) = absurd (omega (arith, p, l, length-append (unpacked w n body) ns, packed_length w n body))
minis_same c n _ _ _ _ _ _ x y p we e l (whole w widths body rest ns h k more) (Miniblocks.no_more vs) = absurd (omega (arith, p, l, length-append (unpacked w n body) ns, packed_length w n body))
minis_same c n _ _ _ _ _ _ x y p we e l (Miniblocks.no_more ws) (last w k widths body h some fits enough within cut) = absurd (omega (arith, some, l, packed_length w k body))
minis_same c n _ _ _ _ _ _ x y p we e l (last w k widths body h some fits enough within cut) (Miniblocks.no_more vs) = absurd (omega (arith, some, l, packed_length w k body))
minis_same c n _ _ _ _ _ _ x y p we e l (whole w widths body rest ns h k more) (whole w' widths' body' rest' ns' h' k' more') =
    let heads = cons_same w w' widths widths' we in
    let whole_text : body ++ (rest ++ x) ≡ body' ++ (rest' ++ y) = sym (append_assoc body rest x) ∙ e ∙ append_assoc body' rest' y in
    let bodies = append_same body body' (rest ++ x) (rest' ++ y) (whole_length w n body body' k (k' ∙ ap (λ (v : ℕ). v * n) (sym heads.0))) whole_text in
    let left : length ns ≡ length ns' = omega (arith, l, length-append (unpacked w n body) ns, packed_length w n body, length-append (unpacked w' n body') ns', packed_length w' n body') in
    let others = minis_same c n widths widths' rest rest' ns ns' x y p heads.1 bodies.1 left more more' in
    let packed : unpacked w n body ≡ unpacked w' n body' = ap (λ (v : ℕ). unpacked v n body) heads.0 ∙ ap (unpacked w' n) bodies.0 in
    record {
      numbers = ap (λ (s : List ℕ). s ++ ns) packed ∙ ap (λ (s : List ℕ). unpacked w' n body' ++ s) others.numbers;
      bodies = λ s. ap (λ (t : List ℕ). t ++ rest) bodies.0 ∙ ap (λ (t : List ℕ). body' ++ t) (others.bodies (shut c n widths w body ns s));
    }
  where
    shut : (c : Bool) (n : ℕ) (widths : List ℕ) (w : ℕ) (body ns : List ℕ) → IsShut c n (w ∷ widths) (unpacked w n body ++ ns) → IsShut c n widths ns
    shut c n widths w body ns (inl f) = inl f
    shut c n widths w body ns (inr full) = inr (omega (arith, full, length-append (unpacked w n body) ns, packed_length w n body))
minis_same c n _ _ _ _ _ _ x y p we e l (whole w widths body rest ns h k more) (last w' k' widths' body' h' some fits enough within cut) =
    let heads = cons_same w w' widths widths' we in
    let none : length ns ≡ 0 = omega (arith, l, fits, length-append (unpacked w n body) ns, packed_length w n body, packed_length w' k' body') in
    let all : k' ≡ n = omega (arith, l, fits, length-append (unpacked w n body) ns, packed_length w n body, packed_length w' k' body') in
    let empty = minis_none c n widths rest ns p none more in
    let full : 8 * length body' ≡ w * n = omega (arith, within, subst (λ (j : ℕ). w' * j ≤ 8 * length body') all enough) ∙ ap (λ (v : ℕ). v * n) (sym heads.0) in
    let text : body ++ x ≡ body' ++ y = ap (λ (t : List ℕ). t ++ x) (sym (append-nil body) ∙ ap (λ (t : List ℕ). body ++ t) (sym empty.0)) ∙ e in
    let bodies = append_same body body' x y (whole_length w n body body' k full) text in
    record {
      numbers = ap (λ (s : List ℕ). unpacked w n body ++ s) empty.1 ∙ append-nil (unpacked w n body) ∙ ap (λ (v : ℕ). unpacked v n body) heads.0 ∙ ap (unpacked w' n) bodies.0 ∙ ap (λ (j : ℕ). unpacked w' j body') (sym all);
      bodies = λ s. ap (λ (t : List ℕ). body ++ t) empty.0 ∙ append-nil body ∙ bodies.0;
    }
minis_same c n _ _ _ _ _ _ x y p we e l (last w k widths body h some fits enough within cut) (whole w' widths' body' rest' ns' h' k' more) =
    let heads = cons_same w w' widths widths' we in
    let none : length ns' ≡ 0 = omega (arith, l, fits, length-append (unpacked w' n body') ns', packed_length w' n body', packed_length w k body) in
    let all : k ≡ n = omega (arith, l, fits, length-append (unpacked w' n body') ns', packed_length w' n body', packed_length w k body) in
    let empty = minis_none c n widths' rest' ns' p none more in
    let full : 8 * length body ≡ w * n = omega (arith, within, subst (λ (j : ℕ). w * j ≤ 8 * length body) all enough) in
    let text : body ++ x ≡ body' ++ y = e ∙ ap (λ (t : List ℕ). t ++ y) (ap (λ (t : List ℕ). body' ++ t) empty.0 ∙ append-nil body') in
    let bodies = append_same body body' x y (whole_length w n body body' full (k' ∙ ap (λ (v : ℕ). v * n) (sym heads.0))) text in
    record {
      numbers = ap (λ (j : ℕ). unpacked w j body) all ∙ ap (λ (v : ℕ). unpacked v n body) heads.0 ∙ ap (unpacked w' n) bodies.0 ∙ sym (append-nil (unpacked w' n body')) ∙ ap (λ (s : List ℕ). unpacked w' n body' ++ s) (sym empty.1);
      bodies = λ s. bodies.0 ∙ sym (append-nil body') ∙ ap (λ (t : List ℕ). body' ++ t) (sym empty.0);
    }
minis_same c n _ _ _ _ _ _ x y p we e l (last w k widths body h some fits enough within cut) (last w' k' widths' body' h' some' fits' enough' within' cut') =
    let heads = cons_same w w' widths widths' we in
    let ks : k ≡ k' = sym (packed_length w k body) ∙ l ∙ packed_length w' k' body' in
    let sizes : length widths ≡ length widths' = ap length heads.1 in
    record {
      numbers =
          sym (unpacked-append w k body x enough) ∙ ap (unpacked w k) e ∙ ap (λ (v : ℕ). unpacked v k (body' ++ y)) heads.0 ∙ ap (λ (j : ℕ). unpacked w' j (body' ++ y)) ks
          ∙ unpacked-append w' k' body' y enough';
      bodies = λ s. (append_same body body' x y (whole_length w n body body' (first s) (second ks sizes s ∙ ap (λ (v : ℕ). v * n) (sym heads.0))) e).0;
    }
  where
    left : IsShut c n (w ∷ widths) (unpacked w k body) → (c ≡ false) ⊎ (k ≡ suc (length widths) * n)
    left (inl f) = inl f
    left (inr full) = inr (sym (packed_length w k body) ∙ full)

    right : k ≡ k' → length widths ≡ length widths' → IsShut c n (w ∷ widths) (unpacked w k body) → (c ≡ false) ⊎ (k' ≡ suc (length widths') * n)
    right ks sizes (inl f) = inl f
    right ks sizes (inr full) = inr (sym ks ∙ sym (packed_length w k body) ∙ full ∙ ap (λ (j : ℕ). suc j * n) sizes)

    first : IsShut c n (w ∷ widths) (unpacked w k body) → 8 * length body ≡ w * n
    first s = shut_whole c n w k widths body p fits enough within cut (left s)

    second : k ≡ k' → length widths ≡ length widths' → IsShut c n (w ∷ widths) (unpacked w k body) → 8 * length body' ≡ w' * n
    second ks sizes s = shut_whole c n w' k' widths' body' p fits' enough' within' cut' (right ks sizes s)

-- ---- blocks

blocks_none : (c : Bool) (m n : ℕ) (body : List ℕ) (ds : List ℤ) → length ds ≡ 0 → Blocks c m n body ds → body ≡ []
blocks_none c m n _ _ z Blocks.no_more = refl
blocks_none c m n _ _ z (block head widths body rest least ns more signed size some minis full others) =
    absurd (omega (arith, some, z, length-append (map (λ k. least +ℤ pos k) ns) more, length-map ns (λ (k : ℕ). least +ℤ pos k)))

record SameBlocks (c : Bool) (body body' : List ℕ) (ds es : List ℤ) : Type 0 where
  pub deltas : ds ≡ es
  pub texts : c ≡ false → body ≡ body'

empty_list : {A : Type 0} (xs : List A) → length xs ≡ 0 → xs ≡ []
empty_list [] z = refl
empty_list (x ∷ xs) z = absurd (omega (arith, z))

-- full, where one of the two is followed by another
either_full : (m n a b : ℕ) (more more' : List ℤ) → a ≤ m * n → b ≤ m * n → a + length more ≡ b + length more' → (more ≡ []) ⊎ (a ≡ m * n) → (more' ≡ []) ⊎ (b ≡ m * n) → (a ≡ b) × (((more ≡ []) × (more' ≡ [])) ⊎ (a ≡ m * n))
either_full m n a b more more' short short' e (inl f) (inl g) = (omega (arith, e, ap length f, ap length g), inl (f, g))
either_full m n a b more more' short short' e (inl f) (inr g) = let s : a ≡ b = omega (arith, e, ap length f, short, g) in (s, inr (s ∙ g))
either_full m n a b more more' short short' e (inr f) (inl g) = let s : a ≡ b = omega (arith, e, ap length g, short', f) in (s, inr f)
either_full m n a b more more' short short' e (inr f) (inr g) = (f ∙ sym g, inr f)

blocks_same : (c : Bool) (m n : ℕ) (body body' : List ℕ) (ds es : List ℤ) (x y : List ℕ) → 0 < n → body ++ x ≡ body' ++ y → length ds ≡ length es → Blocks c m n body ds → Blocks c m n body' es → SameBlocks c body body' ds es
blocks_same c m n _ _ _ _ x y p e l Blocks.no_more Blocks.no_more = record { deltas = refl; texts = λ f. refl }
blocks_same c m n _ _ _ _ x y p e l Blocks.no_more (block head widths body rest least ns more signed size some minis full others) =
    absurd (omega (arith, some, l, length-append (map (λ k. least +ℤ pos k) ns) more, length-map ns (λ (k : ℕ). least +ℤ pos k)))
blocks_same c m n _ _ _ _ x y p e l (block head widths body rest least ns more signed size some minis full others) Blocks.no_more =
    absurd (omega (arith, some, l, length-append (map (λ k. least +ℤ pos k) ns) more, length-map ns (λ (k : ℕ). least +ℤ pos k)))
blocks_same c m n _ _ _ _ x y p e l (block head widths body rest least ns more signed size some minis full others) (block head' widths' body' rest' least' ns' more' signed' size' some' minis' full' others') =
    let front : (h w b r z : List ℕ) → (h ++ (w ++ (b ++ r))) ++ z ≡ h ++ (w ++ (b ++ (r ++ z))) =
    λ h w b r z. append_assoc h (w ++ (b ++ r)) z ∙ ap (λ (t : List ℕ). h ++ t) (append_assoc w (b ++ r) z ∙ ap (λ (t : List ℕ). w ++ t) (append_assoc b r z)) in
    let text : head ++ (widths ++ (body ++ (rest ++ x))) ≡ head' ++ (widths' ++ (body' ++ (rest' ++ y))) = sym (front head widths body rest x) ∙ e ∙ front head' widths' body' rest' y in
    let heads = signed_once (2 ^ 64) head head' (widths ++ (body ++ (rest ++ x))) (widths' ++ (body' ++ (rest' ++ y))) least least' signed signed' text in
    let ws = append_same widths widths' (body ++ (rest ++ x)) (body' ++ (rest' ++ y)) (size ∙ sym size') heads.1.rests in
    let counts : length ns + length more ≡ length ns' + length more' =
    omega (arith, l, length-append (map (λ k. least +ℤ pos k) ns) more, length-map ns (λ (k : ℕ). least +ℤ pos k), length-append (map (λ k. least' +ℤ pos k) ns') more', length-map ns' (λ (k : ℕ). least' +ℤ pos k)) in
    let short : length ns ≤ m * n = subst (λ (k : ℕ). length ns ≤ k * n) size (minis_short c n widths body ns minis) in
    let short' : length ns' ≤ m * n = subst (λ (k : ℕ). length ns' ≤ k * n) size' (minis_short c n widths' body' ns' minis') in
    let fulls = either_full m n (length ns) (length ns') more more' short short' counts full full' in
    let inner = minis_same c n widths widths' body body' ns ns' (rest ++ x) (rest' ++ y) p ws.0 ws.1 fulls.0 minis minis' in
    let here : map (λ k. least +ℤ pos k) ns ≡ map (λ k. least' +ℤ pos k) ns' = ap (λ (z : ℤ). map (λ k. z +ℤ pos k) ns) heads.0 ∙ ap (λ (s : List ℕ). map (λ k. least' +ℤ pos k) s) inner.numbers in
    let left : length more ≡ length more' = omega (arith, counts, fulls.0) in
    let joined : (more ≡ more') → (c ≡ false → body ≡ body') → (c ≡ false → rest ≡ rest') → SameBlocks c (head ++ (widths ++ (body ++ rest))) (head' ++ (widths' ++ (body' ++ rest'))) (map (λ k. least +ℤ pos k) ns ++ more) (map (λ k. least' +ℤ pos k) ns' ++ more') =
    λ mores bodies rests. record {
      deltas = ap (λ (s : List ℤ). s ++ more) here ∙ ap (λ (s : List ℤ). map (λ k. least' +ℤ pos k) ns' ++ s) mores;
      texts = λ f.
          ap (λ (t : List ℕ). t ++ (widths ++ (body ++ rest))) heads.1.texts ∙ ap (λ (t : List ℕ). head' ++ (t ++ (body ++ rest))) ws.0
          ∙ ap (λ (t : List ℕ). head' ++ (widths' ++ (t ++ rest))) (bodies f) ∙ ap (λ (t : List ℕ). head' ++ (widths' ++ (body' ++ t))) (rests f);
    } in
    go fulls.1 joined inner.bodies ws.1 size (λ r. blocks_same c m n rest rest' more more' x y p r left others others')
  where
    go : (((more ≡ []) × (more' ≡ [])) ⊎ (length ns ≡ m * n)) → ((more ≡ more') → (c ≡ false → body ≡ body') → (c ≡ false → rest ≡ rest') → SameBlocks c (head ++ (widths ++ (body ++ rest))) (head' ++ (widths' ++ (body' ++ rest'))) (map (λ k. least +ℤ pos k) ns ++ more) (map (λ k. least' +ℤ pos k) ns' ++ more')) → (IsShut c n widths ns → body ≡ body') → body ++ (rest ++ x) ≡ body' ++ (rest' ++ y) → length widths ≡ m → (rest ++ x ≡ rest' ++ y → SameBlocks c rest rest' more more') → SameBlocks c (head ++ (widths ++ (body ++ rest))) (head' ++ (widths' ++ (body' ++ rest'))) (map (λ k. least +ℤ pos k) ns ++ more) (map (λ k. least' +ℤ pos k) ns' ++ more')
    go (inl none) joined bodies text size recur =
        joined (none.0 ∙ sym none.1) (λ f. bodies (inl f)) (λ f. blocks_none c m n rest more (ap length none.0) others ∙ sym (blocks_none c m n rest' more' (ap length none.1) others'))
    go (inr all) joined bodies text size recur =
        let b : body ≡ body' = bodies (inr (all ∙ ap (λ (k : ℕ). k * n) (sym size))) in
        let rests = append_same body body' (rest ++ x) (rest' ++ y) (ap length b) text in
        let more_same = recur rests.1 in
        joined more_same.deltas (λ f. b) more_same.texts

-- ---- the numbers

sums_length : (w : Width) (z : ℤ) (ds : List ℤ) → length (sums w z ds) ≡ suc (length ds)
sums_length w z [] = refl
sums_length w z (d ∷ ds) = ap suc (sums_length w (z +ℤ d) ds)

deltas_length : (w : Width) (z : ℤ) (ds zs : List ℤ) → IsSums w z ds zs → length ds ≡ length zs - 1
deltas_length w z ds [] s = ap length s
deltas_length w z ds (y ∷ ys) s = omega (arith, ap length s, sums_length w z ds)

sums_same : (w : Width) (z : ℤ) (ds zs ys : List ℤ) → length zs ≡ length ys → IsSums w z ds zs → IsSums w z ds ys → zs ≡ ys
sums_same w z ds [] [] l s t = refl
sums_same w z ds [] (y ∷ ys) l s t = absurd (omega (arith, l))
sums_same w z ds (x ∷ zs) [] l s t = absurd (omega (arith, l))
sums_same w z ds (x ∷ zs) (y ∷ ys) l s t = s ∙ sym t

record SameDelta (c : Bool) (a b : List ℕ) (zs ys : List ℤ) : Type 0 where
  pub numbers : zs ≡ ys
  pub texts : c ≡ false → a ≡ b

same_factor : (m n n' : ℕ) → 0 < m * n → m * n ≡ m * n' → n ≡ n'
same_factor m n n' p e =
    let some : 0 < m = positive m n p in
    sym (mul-div_cancel_left n some) ∙ ap (λ (k : ℕ). k / m) e ∙ mul-div_cancel_left n' some
  where
    positive : (m n : ℕ) → 0 < m * n → 0 < m
    positive zero n p = absurd (omega (arith, p))
    positive (suc m) n p = omega arith

delta_same : (w : Width) (c : Bool) (a b x y : List ℕ) (zs ys : List ℤ) → IsDelta w c a zs → IsDelta w c b ys → a ++ x ≡ b ++ y → length zs ≡ length ys → SameDelta c a b zs ys
delta_same w c a b x y zs ys d f e l =
    let front : (s t u v r z : List ℕ) → (s ++ (t ++ (u ++ (v ++ r)))) ++ z ≡ s ++ (t ++ (u ++ (v ++ (r ++ z)))) =
    λ s t u v r z. append_assoc s (t ++ (u ++ (v ++ r))) z ∙ ap (λ (p : List ℕ). s ++ p) (append_assoc t (u ++ (v ++ r)) z ∙ ap (λ (p : List ℕ). t ++ p) (append_assoc u (v ++ r) z ∙ ap (λ (p : List ℕ). u ++ p) (append_assoc v r z))) in
    let text = sym (front d.size_text d.miniblocks_text d.count_text d.first_text d.body x) ∙ ap (λ (t : List ℕ). t ++ x) (sym d.parts) ∙ e ∙ ap (λ (t : List ℕ). t ++ y) f.parts ∙ front f.size_text f.miniblocks_text f.count_text f.first_text f.body y in
    let one = number_once d.size_text f.size_text (d.miniblocks_text ++ (d.count_text ++ (d.first_text ++ (d.body ++ x)))) (f.miniblocks_text ++ (f.count_text ++ (f.first_text ++ (f.body ++ y)))) d.size f.size d.has_size f.has_size text in
    let two = number_once d.miniblocks_text f.miniblocks_text (d.count_text ++ (d.first_text ++ (d.body ++ x))) (f.count_text ++ (f.first_text ++ (f.body ++ y))) d.miniblocks f.miniblocks d.has_miniblocks f.has_miniblocks one.1.rests in
    let three = number_once d.count_text f.count_text (d.first_text ++ (d.body ++ x)) (f.first_text ++ (f.body ++ y)) d.count f.count d.has_count f.has_count two.1.rests in
    let four = signed_once (2 ^ 64) d.first_text f.first_text (d.body ++ x) (f.body ++ y) d.first f.first d.has_first f.has_first three.1.rests in
    let product : d.miniblocks * d.n ≡ d.miniblocks * f.n = d.divides ∙ one.0 ∙ sym f.divides ∙ ap (λ (k : ℕ). k * f.n) (sym two.0) in
    let some : 0 < d.miniblocks * d.n = subst (λ (k : ℕ). 0 < k) (sym d.divides) d.size_fits.0 in
    let ns : d.n ≡ f.n = same_factor d.miniblocks d.n f.n some product in
    let sizes : length d.deltas ≡ length f.deltas = deltas_length w d.first d.deltas zs d.are ∙ ap (λ (k : ℕ). k - 1) l ∙ sym (deltas_length w f.first f.deltas ys f.are) in
    let theirs : Blocks c d.miniblocks d.n f.body f.deltas = subst (λ (k : ℕ). Blocks c k d.n f.body f.deltas) (sym two.0) (subst (λ (k : ℕ). Blocks c f.miniblocks k f.body f.deltas) (sym ns) f.blocks) in
    let s = blocks_same c d.miniblocks d.n d.body f.body d.deltas f.deltas x y d.n_fits.0 four.1.rests sizes d.blocks theirs in
    let ours : IsSums w d.first d.deltas ys = subst (λ (z : ℤ). IsSums w z d.deltas ys) (sym four.0) (subst (λ (ds : List ℤ). IsSums w f.first ds ys) (sym s.deltas) f.are) in
    record {
      numbers = sums_same w d.first d.deltas zs ys l d.are ours;
      texts = λ u.
          d.parts ∙ ap (λ (t : List ℕ). t ++ (d.miniblocks_text ++ (d.count_text ++ (d.first_text ++ d.body)))) one.1.texts
          ∙ ap (λ (t : List ℕ). f.size_text ++ (t ++ (d.count_text ++ (d.first_text ++ d.body)))) two.1.texts
          ∙ ap (λ (t : List ℕ). f.size_text ++ (f.miniblocks_text ++ (t ++ (d.first_text ++ d.body)))) three.1.texts
          ∙ ap (λ (t : List ℕ). f.size_text ++ (f.miniblocks_text ++ (f.count_text ++ (t ++ d.body)))) four.1.texts
          ∙ ap (λ (t : List ℕ). f.size_text ++ (f.miniblocks_text ++ (f.count_text ++ (f.first_text ++ t)))) (s.texts u) ∙ sym f.parts;
    }

-- ---- pages

pub deltas_same : (w : Width) (section section' : List ℕ) (vs ws : List Value) → section ≡ section' → Begins (AreDeltas w) section vs → Begins (AreDeltas w) section' ws → length vs ≡ length ws → vs ≡ ws
deltas_same w section section' vs ws e a b n =
    let x = a.spells in
    let y = b.spells in
    let l : length x.0 ≡ length y.0 = sym (ap length x.2 ∙ length-map x.0 number) ∙ n ∙ (ap length y.2 ∙ length-map y.0 number) in
    let s = delta_same w true a.text b.text a.rest b.rest x.0 y.0 x.1 y.1 (sym a.parts ∙ e ∙ b.parts) l in
    x.2 ∙ ap (map number) s.numbers ∙ sym y.2

strings_same : (ss ts : List (List ℕ)) (x y : List ℕ) → map (λ (s : List ℕ). pos (length s)) ss ≡ map (λ (s : List ℕ). pos (length s)) ts → flat_map (λ s. s) ss ++ x ≡ flat_map (λ s. s) ts ++ y → ss ≡ ts
strings_same [] [] x y l e = refl
strings_same [] (t ∷ ts) x y l e = absurd (omega (arith, ap length l))
strings_same (s ∷ ss) [] x y l e = absurd (omega (arith, ap length l))
strings_same (s ∷ ss) (t ∷ ts) x y l e =
    let sizes = cons_same (pos (length s)) (pos (length t)) (map (λ (u : List ℕ). pos (length u)) ss) (map (λ (u : List ℕ). pos (length u)) ts) l in
    let text : s ++ (flat_map (λ u. u) ss ++ x) ≡ t ++ (flat_map (λ u. u) ts ++ y) = sym (append_assoc s (flat_map (λ u. u) ss) x) ∙ e ∙ append_assoc t (flat_map (λ u. u) ts) y in
    let first = append_same s t (flat_map (λ u. u) ss ++ x) (flat_map (λ u. u) ts ++ y) (pos_same (length s) (length t) sizes.0) text in
    ap (λ (u : List ℕ). u ∷ ss) first.0 ∙ ap (λ (us : List (List ℕ)). t ∷ us) (strings_same ss ts x y sizes.1 first.1)

pub lengths_same : (section section' : List ℕ) (vs ws : List Value) → section ≡ section' → Begins AreDeltaLengths section vs → Begins AreDeltaLengths section' ws → length vs ≡ length ws → vs ≡ ws
lengths_same section section' vs ws e a b n =
    let x = a.spells in
    let y = b.spells in
    let sizes : List (List ℕ) → List ℤ = λ ss. map (λ (s : List ℕ). pos (length s)) ss in
    let strings : length x.strings ≡ length y.strings = sym (ap length x.are ∙ length-map x.strings bytes) ∙ n ∙ (ap length y.are ∙ length-map y.strings bytes) in
    let l : length (sizes x.strings) ≡ length (sizes y.strings) = length-map x.strings (λ (s : List ℕ). pos (length s)) ∙ strings ∙ sym (length-map y.strings (λ (s : List ℕ). pos (length s))) in
    let text : x.head ++ (flat_map (λ s. s) x.strings ++ a.rest) ≡ y.head ++ (flat_map (λ s. s) y.strings ++ b.rest) =
    sym (append_assoc x.head (flat_map (λ s. s) x.strings) a.rest) ∙ ap (λ (t : List ℕ). t ++ a.rest) (sym x.parts) ∙ sym a.parts ∙ e ∙ b.parts ∙ ap (λ (t : List ℕ). t ++ b.rest) y.parts
    ∙ append_assoc y.head (flat_map (λ s. s) y.strings) b.rest in
    let s = delta_same w32 false x.head y.head (flat_map (λ u. u) x.strings ++ a.rest) (flat_map (λ u. u) y.strings ++ b.rest) (sizes x.strings) (sizes y.strings) x.lengths y.lengths text l in
    let behind = append_same x.head y.head (flat_map (λ u. u) x.strings ++ a.rest) (flat_map (λ u. u) y.strings ++ b.rest) (ap length (s.texts refl)) text in
    x.are ∙ ap (map bytes) (strings_same x.strings y.strings a.rest b.rest s.numbers behind.1) ∙ sym y.are

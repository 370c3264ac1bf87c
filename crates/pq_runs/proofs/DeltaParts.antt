-- Parts of delta packing.
use Rattle.std.proofs.Common.{◌≡◌, ◌⊎◌, ℕ, suc, ◌+◌, ◌-◌, ◌*◌, ◌/◌, ◌^◌, ◌<◌, ◌≤◌, ℤ, pos, negsuc, ◌+ℤ◌, SFits, List, [], ◌∷◌, ◌++◌, length, take, drop, min, get_or, map, replicate, All, Contains, refl, sym, ap, subst, ◌∙◌, inl, inr, arith, append_assoc}
use Rattle.std.proofs.lemmas.Bool.{cases_lt}
use Rattle.std.proofs.lemmas.Nat.{mul-le}
use Rattle.std.proofs.lemmas.List.{length-append, length-map, length-replicate, length-take, length-drop, take_all, drop_all, take-append-drop, get_or_default, get_or-map}
use Rattle.std.proofs.lemmas.List.Elements.{All-take, All-drop}
use Rattle.std.proofs.lemmas.Int.{ints}
use Rattle.std.specs.Int.{Width}
use mir.Syntax.{w8, w16, w32, w64, w128}
use mir.Val.{bits}
use Rattle.pq_numbers.specs.Bits.{digits_of, unpacked}
use Rattle.pq_numbers.specs.Texts.{number_of}
use Rattle.pq_numbers.specs.Varint.{varint}
use Rattle.pq_numbers.specs.Zigzag.{zigzag}
use Rattle.pq_numbers.proofs.Writes.{is_number}
use Rattle.pq_runs.specs.DeltaWriting.{AreWidths, IsBlock}
use Rattle.pq_runs.specs.Packing.{ArePacked, IsLeastWidth}
use Rattle.pq_runs.specs.Words.{word_of}
use Rattle.pq_runs.specs.WrittenDelta.{WrittenMiniblocks, miniblock, WrittenBlocks}
use Rattle.pq_runs.specs.WrittenDelta as writing
use Rattle.pq_runs.proofs.Filled.{number_of-zeros, digits-filled}

pub take_short : {A : Type 0} (n : ℕ) (xs : List A) → length xs < n → xs ≡ take n xs
take_short n xs lt = sym (take_all n xs (omega (arith, lt)))

pub drop_short : {A : Type 0} (n : ℕ) (xs : List A) → length xs < n → [] ≡ drop n xs
drop_short n xs lt = sym (drop_all n xs (omega (arith, lt)))

pub take_rest : {A : Type 0} (n : ℕ) (xs : List A) → take (length xs - n) (drop n xs) ≡ drop n xs
take_rest n xs = take_all (length xs - n) (drop n xs) (omega (arith, length-drop n xs))

-- a fact of each element, at any default
pub all_of : {A : Type 0} (P : A → Type 0) (xs : List A) (d : A) → ((k : ℕ) → k < length xs → P (get_or xs k d)) → All P xs
all_of P xs d h = λ k e lt. rw (get_or_default xs k e d lt) (h k lt)

pub map_is : {A B : Type 0} (f : A → B) (xs : List A) (ys : List B) (d : A) (e : B) → length xs ≡ length ys → ((k : ℕ) → k < length xs → f (get_or xs k d) ≡ get_or ys k e) → map f xs ≡ ys
map_is f [] [] d e n h = refl
map_is f [] (y ∷ ys) d e n h = absurd (omega (arith, n))
map_is f (x ∷ xs) [] d e n h = absurd (omega (arith, n))
map_is f (x ∷ xs) (y ∷ ys) d e n h =
    let first : f x ≡ y = h 0 (omega arith) in
    rw first (ap (λ t. y ∷ t) (map_is f xs ys d e (omega (arith, n)) (λ k lt. h (suc k) (omega (arith, lt)))))

-- ---- miniblocks

pub drop_four : (xs : List ℕ) → length xs ≤ 128 → drop 32 (drop 32 (drop 32 (drop 32 xs))) ≡ []
drop_four xs le = drop_all 32 (drop 32 (drop 32 (drop 32 xs))) (omega (arith, le, length-drop 32 xs, length-drop 32 (drop 32 xs), length-drop 32 (drop 32 (drop 32 xs))))

pub fit_there : (w : ℕ) (part xs : List ℕ) → part ≡ xs → All (λ v. v < 2 ^ w) part → All (λ v. v < 2 ^ w) xs
fit_there w part xs e h = subst (λ (ys : List ℕ). All (λ v. v < 2 ^ w) ys) e h

pub least_there : (w : ℕ) (part xs : List ℕ) → part ≡ xs → IsLeastWidth w part → IsLeastWidth w xs
least_there w part xs e h = subst (λ (ys : List ℕ). IsLeastWidth w ys) e h

-- a miniblock that is filled up with zeros
pub miniblock_is : (w count : ℕ) (numbers text text' : List ℕ) → length numbers ≤ 32 → All (λ v. v < 2 ^ w) numbers → ArePacked w numbers text → count ≡ 4 * w - (w * length numbers + 7) / 8 → text' ≡ text ++ replicate count 0 → (length text' ≡ 4 * w) × (unpacked w 32 text' ≡ numbers ++ replicate (32 - length numbers) 0)
miniblock_is w count numbers text text' few below p is e =
    let most : w * length numbers ≤ w * 32 = mul-le w (length numbers) w 32 (omega arith) few in
    let size : length text' ≡ length text + count = ap length e ∙ length-append text (replicate count 0) ∙ ap (λ (k : ℕ). length text + k) (length-replicate count 0) in
    let value : number_of text' ≡ word_of w numbers = ap number_of e ∙ number_of-zeros text count ∙ p.value in
    let all : length numbers + (32 - length numbers) ≡ 32 = omega (arith, few) in (
      omega (arith, size, p.size, is, most),
      ap (λ (n : ℕ). digits_of (2 ^ w) n (number_of text')) (sym all) ∙ ap (λ (x : ℕ). digits_of (2 ^ w) (length numbers + (32 - length numbers)) x) value ∙ digits-filled w numbers (32 - length numbers) below,
    )

pub first_widths : (ws ns : List ℕ) (d : ℕ) → 0 < length ws → AreWidths ws ns → (get_or ws 0 d ≤ 64) × IsLeastWidth (get_or ws 0 d) (take 32 ns) × AreWidths (drop 1 ws) (drop 32 ns)
first_widths [] ns d some h = absurd (omega (arith, some))
first_widths (w ∷ ws) ns d some h = h

pub no_numbers : (most : ℕ) (ws text ns : List ℕ) → WrittenMiniblocks most ws text ns → length ns ≡ 0 → text ≡ []
no_numbers most _ _ _ (writing.no_more n) e = refl
no_numbers most _ _ _ (miniblock w k ws body rest ns more some fits least size is end others) e = absurd (omega (arith, e, some, length-append ns more))

-- where there are no numbers all widths are 0
pub zero_widths : (ws : List ℕ) → AreWidths ws [] → ws ≡ replicate (length ws) 0
zero_widths [] h = refl
zero_widths (w ∷ ws) h =
    let none : w ≡ 0 = omega (arith, h.1.least 0 (λ k d lt. absurd (omega (arith, lt)))) in
    ap (λ (v : ℕ). v ∷ ws) none ∙ ap (λ (t : List ℕ). 0 ∷ t) (zero_widths ws h.2)

pub none_there : (most : ℕ) (ws ns : List ℕ) → AreWidths ws ns → length ns ≡ 0 → WrittenMiniblocks most ws [] ns
none_there most ws (n ∷ ns) h e = absurd (omega (arith, e))
none_there most ws [] h e = subst (λ (t : List ℕ). WrittenMiniblocks most t [] []) (sym (zero_widths ws h)) (writing.no_more (length ws))

mini_join : (most w : ℕ) (ws text text' ns : List ℕ) → 0 < length ns → IsLeastWidth w (take 32 ns) → length text ≡ 4 * w → unpacked w 32 text ≡ take 32 ns ++ replicate (32 - length (take 32 ns)) 0 → WrittenMiniblocks most ws text' (drop 32 ns) → All (λ m. m < 2 ^ most) ns → WrittenMiniblocks most (w ∷ ws) (text ++ text') ns
mini_join most w ws text text' ns some least size unpacks more below =
    let n : length (take 32 ns) ≡ min 32 (length ns) = length-take 32 ns in
    let fits : w ≤ most = least.least most (All-take (λ m. m < 2 ^ most) 32 ns below) in
    let end : (32 - length (take 32 ns) ≡ 0) ⊎ (drop 32 ns ≡ []) = elim (cases_lt (length ns) 32) [
      | inl lt ↦ inr (drop_all 32 ns (omega (arith, lt)))
      | inr le ↦ inl (omega (arith, n, le))
    ] in
    subst (λ (ms : List ℕ). WrittenMiniblocks most (w ∷ ws) (text ++ text') ms) (take-append-drop 32 ns)
    (miniblock w (32 - length (take 32 ns)) ws text text' (take 32 ns) (drop 32 ns) (omega (arith, n, some)) fits least size unpacks end more)

pub mini_step : (most w : ℕ) (widths numbers first rest text text' : List ℕ) → 1 ≤ length widths → AreWidths widths numbers → 0 < length numbers → w ≡ get_or widths 0 0 → first ≡ take 32 numbers → rest ≡ drop 32 numbers → length text ≡ 4 * w → unpacked w 32 text ≡ first ++ replicate (32 - length first) 0 → WrittenMiniblocks most (drop 1 widths) text' rest → All (λ m. m < 2 ^ most) numbers → WrittenMiniblocks most widths (text ++ text') numbers
mini_step most w [] numbers first rest text text' one fit some e f r size unpacks more below = absurd (omega (arith, one))
mini_step most w (v ∷ vs) numbers first rest text text' one fit some e f r size unpacks more below =
    let unpacks' = subst (λ (t : List ℕ). unpacked w 32 text ≡ t ++ replicate (32 - length t) 0) f unpacks in
    let more' = subst (λ (t : List ℕ). WrittenMiniblocks most vs text' t) r more in
    mini_join most v vs text text' numbers some fit.1 (size ∙ ap (λ (k : ℕ). 4 * k) e) (subst (λ (k : ℕ). unpacked k 32 text ≡ take 32 numbers ++ replicate (32 - length (take 32 numbers)) 0) e unpacks') more' below

-- those behind the first 32 are below it too
pub below_rest : (most : ℕ) (numbers rest : List ℕ) → rest ≡ drop 32 numbers → All (λ m. m < 2 ^ most) numbers → All (λ m. m < 2 ^ most) rest
below_rest most numbers rest e h = subst (λ (ns : List ℕ). All (λ m. m < 2 ^ most) ns) (sym e) (All-drop (λ m. m < 2 ^ most) 32 numbers h)

-- where there are none, all are below
pub all_none : (most : ℕ) (ns : List ℕ) → length ns ≡ 0 → All (λ m. m < 2 ^ most) ns
all_none most ns e = λ k d lt. absurd (omega (arith, e, lt))

-- as many bytes, and those of the others
pub mini_size : (w : ℕ) (numbers rest text text' : List ℕ) → w ≤ 64 → 0 < length numbers → rest ≡ drop 32 numbers → length text ≡ 4 * w → (length rest ≡ 0 → text' ≡ []) → length text' ≤ 8 * length rest + 248 → length (text ++ text') ≤ 8 * length numbers + 248
mini_size w numbers rest text text' fits some r size none short =
    let n : length rest ≡ length numbers - 32 = ap length r ∙ length-drop 32 numbers in
    elim (cases_lt 0 (length rest)) [
      | inl more ↦ omega (arith, length-append text text', size, fits, short, n, more)
      | inr last ↦ let empty : text' ≡ [] = none (omega (arith, last)) in omega (arith, length-append text text', ap length empty, size, fits, some)
    ]

-- ---- a block

-- numbers of at most 64 bits in zigzag
pub zigzag_fits : (v : Width) (z : ℤ) → bits v ≤ 64 → SFits v z → zigzag z < 2 ^ 64
zigzag_fits w8 (pos n) h f = omega (arith, ints)
zigzag_fits w8 (negsuc n) h f = omega (arith, ints)
zigzag_fits w16 (pos n) h f = omega (arith, ints)
zigzag_fits w16 (negsuc n) h f = omega (arith, ints)
zigzag_fits w32 (pos n) h f = omega (arith, ints)
zigzag_fits w32 (negsuc n) h f = omega (arith, ints)
zigzag_fits w64 (pos n) h f = omega (arith, ints)
zigzag_fits w64 (negsuc n) h f = omega (arith, ints)
zigzag_fits w128 z h f = absurd (omega (arith, h))

-- how far a number is above another
rise_below : (v : Width) (least : ℤ) (m : ℕ) → SFits v least → SFits v (least +ℤ pos m) → m < 2 ^ bits v
rise_below w8 least m f g = omega (arith, ints)
rise_below w16 least m f g = omega (arith, ints)
rise_below w32 least m f g = omega (arith, ints)
rise_below w64 least m f g = omega (arith, ints)
rise_below w128 least m f g = omega (arith, ints)

rises_below : (v : Width) (least : ℤ) (ns : List ℕ) → SFits v least → All (SFits v) (map (λ m. least +ℤ pos m) ns) → All (λ m. m < 2 ^ bits v) ns
rises_below v least ns f h = all_of (λ m. m < 2 ^ bits v) ns 0 (λ k lt.
    let there : get_or (map (λ m. least +ℤ pos m) ns) k least ≡ least +ℤ pos (get_or ns k 0) = get_or-map (λ m. least +ℤ pos m) ns k 0 least lt in
    rise_below v least (get_or ns k 0) f (subst (λ (z : ℤ). SFits v z) there (h k least (rw length-map lt))))

pub three_parts : (out out1 out2 out3 a b c : List ℕ) → out1 ≡ out ++ a → out2 ≡ out1 ++ b → out3 ≡ out2 ++ c → out3 ≡ out ++ (a ++ (b ++ c))
three_parts out out1 out2 out3 a b c e f g =
    g ∙ ap (λ (t : List ℕ). t ++ c) (f ∙ ap (λ (t : List ℕ). t ++ b) e) ∙ append_assoc (out ++ a) b c ∙ append_assoc out a (b ++ c)

-- the least number stands at 0 above itself
zero_at : (least : ℤ) (ns : List ℕ) (ds : List ℤ) (k : ℕ) → map (λ m. least +ℤ pos m) ns ≡ ds → k < length ns → get_or ds k least ≡ least → get_or ns k 0 ≡ 0
zero_at least ns ds k are lt is =
    let there : get_or (map (λ m. least +ℤ pos m) ns) k least ≡ least +ℤ pos (get_or ns k 0) = get_or-map (λ m. least +ℤ pos m) ns k 0 least lt in
    let same : least +ℤ pos (get_or ns k 0) ≡ least = sym there ∙ ap (λ (zs : List ℤ). get_or zs k least) are ∙ is in
    omega (arith, ints, same)

pub has_zero : (least : ℤ) (ns : List ℕ) (ds : List ℤ) → map (λ m. least +ℤ pos m) ns ≡ ds → Contains ds least → Contains ns 0
has_zero least ns ds are one =
    let n : length ns ≡ length ds = sym (length-map ns (λ m. least +ℤ pos m)) ∙ ap length are in
    (one.0, omega (arith, n, one.1), zero_at least ns ds one.0 are (omega (arith, n, one.1)) one.2)

pub is_block : (v : Width) (least : ℤ) (widths body ns : List ℕ) (ds : List ℤ) → length widths ≡ 4 → All (SFits v) ds → Contains ds least → map (λ m. least +ℤ pos m) ns ≡ ds → ((most : ℕ) → All (λ m. m < 2 ^ most) ns → WrittenMiniblocks most widths body ns) → zigzag least < 2 ^ 64 → length body ≤ 8 * length ns + 248 → IsBlock v (varint (zigzag least) ++ (widths ++ body)) ds
is_block v least widths body ns ds four range one are minis small short =
    let head : List ℕ = varint (zigzag least) in
    let number = is_number (zigzag least) small in
    let n : length ns ≡ length ds = sym (length-map ns (λ m. least +ℤ pos m)) ∙ ap length are in
    let fits : SFits v least = subst (λ (z : ℤ). SFits v z) one.2 (range one.0 least one.1) in
    let range' : All (SFits v) (map (λ m. least +ℤ pos m) ns) = subst (λ (zs : List ℤ). All (SFits v) zs) (sym are) range in
    record {
      before = λ rest more full blocks.
          let here : WrittenBlocks v (head ++ (widths ++ (body ++ rest))) (map (λ m. least +ℤ pos m) ns ++ more) =
          writing.block widths body rest least ns more fits range' (has_zero least ns ds are one) four (minis (bits v) (rises_below v least ns fits range')) (either full (λ e. e) (λ e. omega (arith, n, e))) blocks in
          let text : (head ++ (widths ++ body)) ++ rest ≡ head ++ (widths ++ (body ++ rest)) = append_assoc head (widths ++ body) rest ∙ ap (λ (t : List ℕ). head ++ t) (append_assoc widths body rest) in
          subst (λ (t : List ℕ). WrittenBlocks v t (ds ++ more)) (sym text) (subst (λ (zs : List ℤ). WrittenBlocks v (head ++ (widths ++ (body ++ rest))) (zs ++ more)) are here);
      size = omega (arith, length-append head (widths ++ body), length-append widths body, number.short, four, short, n);
    }
  where
    either : {A B C D : Type 0} → A ⊎ B → (A → C) → (B → D) → C ⊎ D
    either (inl a) f g = inl (f a)
    either (inr b) f g = inr (g b)

pub no_items : {A : Type 0} (xs : List A) → length xs ≡ 0 → xs ≡ []
no_items [] e = refl
no_items (x ∷ xs) e = absurd (omega (arith, e))

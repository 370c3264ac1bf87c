-- What delta packing spells is what is read.
use Rattle.std.proofs.Common.{◌≡◌, ℕ, zero, suc, ◌+◌, ◌-◌, ◌*◌, ◌/◌, ◌%◌, ◌^◌, ◌<◌, ◌≤◌, min, ℤ, pos, ◌+ℤ◌, Bool, true, false, List, [], ◌∷◌, ◌++◌, length, take, drop, map, Some, Result, Ok, refl, sym, ap, subst, ◌∙◌, inl, inr, arith, append-nil, append_assoc}
use Rattle.std.proofs.lemmas.Bool.{lt-ltb, le-ltb, eq-eqb, ne_eqb, cases_eq}
use Rattle.std.proofs.lemmas.List.{length-append, length-map, map-append, take_at, drop_at}
use Rattle.std.proofs.lemmas.Nat.{le-div, mul-le, div-add-mod'}
use Rattle.std.specs.Int.{Width, w64}
use Rattle.std.proofs.Math.Nat.{mul-div_cancel_left}
use Rattle.columns_base.specs.declared.error.Error.{Error}
use Rattle.pq_numbers.specs.Bits.{unpacked}
use Rattle.pq_numbers.specs.Texts.{number_of, Begins}
use Rattle.pq_numbers.specs.Varint.{IsNumber, varint_at}
use Rattle.pq_numbers.specs.Zigzag.{unzigzag, IsSigned}
use Rattle.pq_numbers.proofs.Digits.{unpacked-append, length-digits}
use Rattle.pq_numbers.proofs.Numbers.{number_again}
use Rattle.pq_runs.specs.Delta.{Miniblocks, no_more, whole, last, Blocks, block, IsDelta, IsSums, sums, wrapped}
use Rattle.pq_runs.specs.DeltaReading.{Out, all, gives, ends, DeltaReader, above, there, mini_part, mini_at, minis_at, block_part, blocks_at, running, Head, is_good, head_at, deltas_of, numbers_of}
use Rattle.pq_runs.proofs.Complete.{take_enough}

-- ---- giving

pub gives-gives : (a b : List ℤ) (s t : ℕ) (o : Out) → gives a s (gives b t o) ≡ gives (a ++ b) (s + t) o
gives-gives a b s t o =
    let items : all a ++ (all b ++ o.items) ≡ all (a ++ b) ++ o.items = sym (append_assoc (all a) (all b) o.items) ∙ ap (λ (x : List (Result ℤ Error)). x ++ o.items) (sym (map-append Ok a b)) in
    let taken : s + (t + o.taken) ≡ s + t + o.taken = omega arith in
    ap (λ (x : List (Result ℤ Error)). let r : Out = record { items = x; taken = s + (t + o.taken) } in r) items ∙ ap (λ (n : ℕ). let r : Out = record { items = all (a ++ b) ++ o.items; taken = n } in r) taken

pub gives-none : (o : Out) → gives [] 0 o ≡ o
gives-none o =
    let taken : 0 + o.taken ≡ o.taken = omega arith in
    ap (λ (n : ℕ). let r : Out = record { items = o.items; taken = n } in r) taken

-- ---- a miniblock

there_whole : (w q : ℕ) (body : List ℕ) → length body ≡ w * q → there w q body ≡ 8 * q
there_whole w q body size =
    elim (cases_eq w 0) [
      | inl none ↦ rw (eq-eqb w 0 none) refl
      | inr some ↦
          let h : 0 < w = omega (arith, some) in
          let e : 8 * length body ≡ w * (8 * q) = omega (arith, size) in
          let d : 8 * length body / w ≡ 8 * q = ap (λ (x : ℕ). x / w) e ∙ mul-div_cancel_left (8 * q) h in
          rw (ne_eqb w 0 some, d) (omega arith)
    ]

le_there : (w q k : ℕ) (body : List ℕ) → k ≤ 8 * q → w * k ≤ 8 * length body → k ≤ there w q body
le_there w q k body within enough =
    elim (cases_eq w 0) [
      | inl none ↦ rw (eq-eqb w 0 none) within
      | inr some ↦
          let fits : k ≤ 8 * length body / w = le-div k (8 * length body) w (omega (arith, some)) (omega (arith, enough)) in
          rw (ne_eqb w 0 some) (omega (arith, fits, within))
    ]

-- enough numbers stand there
pub part_enough : (others : DeltaReader) (q : ℕ) (least : ℤ) (w k : ℕ) (body rest : List ℕ) → min k (8 * q) ≤ there w q body → mini_part others q least w k body rest ≡ gives (above least (unpacked w (min k (8 * q)) body)) (w * q) (others (k - 8 * q) rest)
part_enough others q least w k body rest le = rw (le-ltb (there w q body) (min k (8 * q)) le) refl

mini_whole : (others : DeltaReader) (q : ℕ) (least : ℤ) (w k : ℕ) (body after : List ℕ) → length body ≡ w * q → mini_at others q least w (8 * q + k) (body ++ after) ≡ gives (above least (unpacked w (8 * q) body)) (w * q) (others k after)
mini_whole others q least w k body after size =
    let n : min (8 * q + k) (8 * q) ≡ 8 * q = omega arith in
    let left : 8 * q + k - 8 * q ≡ k = omega arith in
    rw (take_at body after (w * q) size, drop_at body after (w * q) size)
    (part_enough others q least w (8 * q + k) body after (omega (arith, there_whole w q body size)) ∙ rw (n, left) refl)

mini_last : (others : DeltaReader) (q : ℕ) (least : ℤ) (w k : ℕ) (body after : List ℕ) → ((b : List ℕ) → others 0 b ≡ ends) → k ≤ 8 * q → w * k ≤ 8 * length body → length body ≤ w * q → mini_at others q least w k (body ++ after) ≡ gives (above least (unpacked w k body)) (w * q) ends
mini_last others q least w k body after none within enough short =
    let more : List ℕ = take (w * q - length body) after in
    let longer : w * k ≤ 8 * length (body ++ more) = omega (arith, enough, length-append body more) in
    let n : min k (8 * q) ≡ k = omega (arith, within) in
    let left : k - 8 * q ≡ 0 = omega (arith, within) in
    rw (take_enough w k q body after short)
    (part_enough others q least w k (body ++ more) (drop (w * q) (body ++ after)) (omega (arith, n, le_there w q k (body ++ more) within longer)) ∙ rw (n, left, none (drop (w * q) (body ++ after)), unpacked-append w k body more enough) refl)

-- ---- miniblocks

pub mini_step : (others : DeltaReader) (q : ℕ) (least : ℤ) (w : ℕ) (ws : List ℕ) (k : ℕ) (bytes : List ℕ) → 0 < k → w ≤ 64 → minis_at others q least (w ∷ ws) k bytes ≡ mini_at (minis_at others q least ws) q least w k bytes
unfolding minis_at
mini_step others q least w ws k bytes some fits = rw (ne_eqb k 0 (λ e. omega (arith, e, some)), le-ltb 64 w fits) refl

pub minis_none : (others : DeltaReader) (q : ℕ) (least : ℤ) (ws : List ℕ) (bytes : List ℕ) → ((b : List ℕ) → others 0 b ≡ ends) → minis_at others q least ws 0 bytes ≡ ends
unfolding minis_at
minis_none others q least [] bytes none = none bytes
minis_none others q least (w ∷ ws) bytes none = refl

pub minis_end : (others : DeltaReader) (q : ℕ) (least : ℤ) (k : ℕ) (bytes : List ℕ) → minis_at others q least [] k bytes ≡ others k bytes
unfolding minis_at
minis_end others q least k bytes = refl

-- the last block
minis_last : (cut : Bool) (q : ℕ) (least : ℤ) (others : DeltaReader) (ws body ns after : List ℕ) → 0 < q → ((b : List ℕ) → others 0 b ≡ ends) → Miniblocks cut (8 * q) ws body ns → (t : ℕ) × (minis_at others q least ws (length ns) (body ++ after) ≡ gives (above least ns) t ends) × (cut ≡ false → t ≡ length body)
minis_last cut q least others _ _ _ after h none (no_more ws) = (0, minis_none others q least ws after none ∙ sym (gives-none ends), λ _. refl)
minis_last cut q least others _ _ _ after h none (whole w ws body rest ns fits size more) =
    let bytes : length body ≡ w * q = omega (arith, size) in
    let r = minis_last cut q least others ws rest ns after h none more in
    let n : length (unpacked w (8 * q) body ++ ns) ≡ 8 * q + length ns = length-append (unpacked w (8 * q) body) ns ∙ ap (λ (k : ℕ). k + length ns) (length-digits (2 ^ w) (8 * q) (number_of body)) in (
      w * q + r.0,
      rw (n, append_assoc body rest after) (
          mini_step others q least w ws (8 * q + length ns) (body ++ (rest ++ after)) (omega (arith, h)) fits
          ∙ mini_whole (minis_at others q least ws) q least w (length ns) body (rest ++ after) bytes
          ∙ ap (gives (above least (unpacked w (8 * q) body)) (w * q)) r.1
          ∙ gives-gives (above least (unpacked w (8 * q) body)) (above least ns) (w * q) r.0 ends
          ∙ ap (λ (ds : List ℤ). gives ds (w * q + r.0) ends) (sym (map-append (λ m. least +ℤ pos m) (unpacked w (8 * q) body) ns))
          ),
      λ e. let t : r.0 ≡ length rest = r.2 e in omega (arith, t, bytes, length-append body rest),
    )
minis_last cut q least others _ _ _ after h none (last w k ws body fits some within enough size end) =
    let n : length (unpacked w k body) ≡ k = length-digits (2 ^ w) k (number_of body) in (
      w * q,
      rw n (mini_step others q least w ws k (body ++ after) some fits ∙ mini_last (minis_at others q least ws) q least w k body after (λ b. minis_none others q least ws b none) within enough (omega (arith, size))),
      λ e. elim end [
        | inl may ↦ absurd (cc (sym may ∙ e))
        | inr full ↦ omega (arith, full)
      ],
    )

-- a full block
minis_full : (cut : Bool) (q : ℕ) (least : ℤ) (others : DeltaReader) (k : ℕ) (ws body ns after : List ℕ) → 0 < q → Miniblocks cut (8 * q) ws body ns → length ns ≡ length ws * (8 * q) → minis_at others q least ws (length ns + k) (body ++ after) ≡ gives (above least ns) (length body) (others k after)
minis_full cut q least others k _ _ _ after h (no_more []) full =
    let n : 0 + k ≡ k = omega arith in
    rw n (minis_end others q least k after ∙ sym (gives-none (others k after)))
minis_full cut q least others k _ _ _ after h (no_more (w ∷ ws)) full = absurd (omega (arith, full, mul-le 1 1 (suc (length ws)) (8 * q) (omega arith) (omega (arith, h))))
minis_full cut q least others k _ _ _ after h (whole w ws body rest ns fits size more) full =
    let bytes : length body ≡ w * q = omega (arith, size) in
    let n : length (unpacked w (8 * q) body ++ ns) ≡ 8 * q + length ns = length-append (unpacked w (8 * q) body) ns ∙ ap (λ (j : ℕ). j + length ns) (length-digits (2 ^ w) (8 * q) (number_of body)) in
    let others_full : length ns ≡ length ws * (8 * q) = omega (arith, full, n) in
    let sum : 8 * q + length ns + k ≡ 8 * q + (length ns + k) = omega arith in
    rw (n, append_assoc body rest after, sum) (
    mini_step others q least w ws (8 * q + (length ns + k)) (body ++ (rest ++ after)) (omega (arith, h)) fits
    ∙ mini_whole (minis_at others q least ws) q least w (length ns + k) body (rest ++ after) bytes
    ∙ ap (gives (above least (unpacked w (8 * q) body)) (w * q)) (minis_full cut q least others k ws rest ns after h more others_full)
    ∙ gives-gives (above least (unpacked w (8 * q) body)) (above least ns) (w * q) (length rest) (others k after)
    ∙ ap (λ (ds : List ℤ). gives ds (w * q + length rest) (others k after)) (sym (map-append (λ m. least +ℤ pos m) (unpacked w (8 * q) body) ns))
    ∙ ap (λ (t : ℕ). gives (above least (unpacked w (8 * q) body ++ ns)) t (others k after)) (ap (λ (j : ℕ). j + length rest) (sym bytes) ∙ sym (length-append body rest))
    )
minis_full cut q least others k _ _ _ after h (last w j [] body fits some within enough size end) full =
    let n : length (unpacked w j body) ≡ j = length-digits (2 ^ w) j (number_of body) in
    let is : j ≡ 8 * q = omega (arith, full, n) in
    let e : w * j ≡ w * (8 * q) = ap (λ (x : ℕ). w * x) is in
    let bytes : length body ≡ w * q = omega (arith, size, enough, e) in
    rw n (rw is (
    mini_step others q least w [] (8 * q + k) (body ++ after) (omega (arith, h)) fits
    ∙ mini_whole (minis_at others q least []) q least w k body after bytes
    ∙ ap (gives (above least (unpacked w (8 * q) body)) (w * q)) (minis_end others q least k after)
    ∙ ap (λ (t : ℕ). gives (above least (unpacked w (8 * q) body)) t (others k after)) (sym bytes)
    ))
minis_full cut q least others k _ _ _ after h (last w j (v ∷ ws) body fits some within enough size end) full =
    absurd (omega (arith, full, within, length-digits (2 ^ w) j (number_of body), mul-le 2 (8 * q) (suc (suc (length ws))) (8 * q) (omega arith) (omega arith), h))

-- ---- blocks

pub blocks_none : (fuel m q : ℕ) (bytes : List ℕ) → blocks_at fuel m q 0 bytes ≡ ends
unfolding blocks_at
blocks_none zero m q bytes = refl
blocks_none (suc fuel) m q bytes = refl

pub blocks_step : (fuel m q k : ℕ) (bytes : List ℕ) → 0 < k → blocks_at (suc fuel) m q k bytes ≡ block_part (blocks_at fuel m q) m q k (length bytes) (varint_at bytes)
unfolding blocks_at
blocks_step fuel m q k bytes some = rw (ne_eqb k 0 (λ e. omega (arith, e, some))) refl

pub enough_there : (others : DeltaReader) (m q k size n : ℕ) (tail : List ℕ) → m ≤ length tail → block_part others m q k size (Some (n, tail)) ≡ gives [] (size - length tail + m) (minis_at others q (unzigzag n) (take m tail) k (drop m tail))
enough_there others m q k size n tail le = rw (le-ltb (length tail) m le) refl

some_byte : (head : List ℕ) (n : ℕ) → IsNumber head n → 0 < length head
some_byte [] n number = absurd number.digits
some_byte (b ∷ head) n number = omega arith

nothing_spelled : (cut : Bool) (m n : ℕ) (text : List ℕ) (ds : List ℤ) → Blocks cut m n text ds → length ds ≡ 0 → text ≡ []
nothing_spelled cut m n _ _ Blocks.no_more e = refl
nothing_spelled cut m n _ _ (block head widths body rest least ns more signed size some minis full others) e =
    absurd (omega (arith, e, some, length-append (map (λ m. least +ℤ pos m) ns) more, length-map ns (λ m. least +ℤ pos m)))

-- the head of a block and its widths
block_front : (fuel m q k : ℕ) (head widths behind : List ℕ) (least : ℤ) → 0 < k → IsSigned (2 ^ 64) head least → length widths ≡ m → blocks_at (suc fuel) m q k (head ++ (widths ++ behind)) ≡ gives [] (length head + m) (minis_at (blocks_at fuel m q) q least widths k behind)
block_front fuel m q k head widths behind least some signed size =
    let bytes : List ℕ = head ++ (widths ++ behind) in
    let taken : length bytes - length (widths ++ behind) + m ≡ length head + m = omega (arith, length-append head (widths ++ behind)) in
    blocks_step fuel m q k bytes some
    ∙ ap (block_part (blocks_at fuel m q) m q k (length bytes)) (number_again head signed.n (widths ++ behind) signed.number)
    ∙ enough_there (blocks_at fuel m q) m q k (length bytes) signed.n (widths ++ behind) (omega (arith, size, length-append widths behind))
    ∙ rw (taken, take_at widths behind m size, drop_at widths behind m size, ← signed.is) refl

blocks_read : (cut : Bool) (m q fuel : ℕ) (text : List ℕ) (ds : List ℤ) (after : List ℕ) → 0 < q → Blocks cut m (8 * q) text ds → length text ≤ fuel → (t : ℕ) × (blocks_at fuel m q (length ds) (text ++ after) ≡ gives ds t ends) × (cut ≡ false → t ≡ length text)
blocks_read cut m q fuel _ _ after h Blocks.no_more le = (0, blocks_none fuel m q after ∙ sym (gives-none ends), λ _. refl)
blocks_read cut m q zero _ _ after h (block head widths body rest least ns more signed size some minis full others) le =
    absurd (omega (arith, le, some_byte head signed.n signed.number, length-append head (widths ++ (body ++ rest))))
blocks_read cut m q (suc fuel) _ _ after h (block head widths body rest least ns more signed size some minis full others) le =
    let behind : List ℕ = body ++ (rest ++ after) in
    let text : (head ++ (widths ++ (body ++ rest))) ++ after ≡ head ++ (widths ++ behind) = append_assoc head (widths ++ (body ++ rest)) after ∙ ap (λ (t : List ℕ). head ++ t) (append_assoc widths (body ++ rest) after ∙ ap (λ (t : List ℕ). widths ++ t) (append_assoc body rest after)) in
    let n : length (above least ns ++ more) ≡ length ns + length more = length-append (above least ns) more ∙ ap (λ (j : ℕ). j + length more) (length-map ns (λ m. least +ℤ pos m)) in
    let whole : length (head ++ (widths ++ (body ++ rest))) ≡ length head + (m + (length body + length rest)) = omega (arith, length-append head (widths ++ (body ++ rest)), length-append widths (body ++ rest), length-append body rest, size) in
    let front = block_front fuel m q (length ns + length more) head widths behind least (omega (arith, some)) signed size in
    elim full [
      | inl none ↦
          let zero_more : length ns + length more ≡ length ns = omega (arith, ap length none) in
          let empty : rest ≡ [] = nothing_spelled cut m (8 * q) rest more others (ap length none) in
          let r = minis_last cut q least (blocks_at fuel m q) widths body ns (rest ++ after) h (λ b. blocks_none fuel m q b) minis in (
            length head + m + r.0,
            rw (n, text) (front ∙ rw zero_more (ap (gives [] (length head + m)) r.1 ∙ gives-gives [] (above least ns) (length head + m) r.0 ends) ∙ ap (λ (zs : List ℤ). gives zs (length head + m + r.0) ends) (sym (append-nil (above least ns)) ∙ ap (λ (zs : List ℤ). above least ns ++ zs) (sym none))),
            λ e. let t : r.0 ≡ length body = r.2 e in omega (arith, t, whole, ap length empty),
          )
      | inr all ↦
          let r = blocks_read cut m q fuel rest more after h others (omega (arith, le, whole, some_byte head signed.n signed.number)) in
          let full' : length ns ≡ length widths * (8 * q) = all ∙ ap (λ (j : ℕ). j * (8 * q)) (sym size) in (
            length head + m + (length body + r.0),
            rw (n, text) (
                front
                ∙ ap (gives [] (length head + m)) (minis_full cut q least (blocks_at fuel m q) (length more) widths body ns (rest ++ after) h minis full' ∙ ap (gives (above least ns) (length body)) r.1 ∙ gives-gives (above least ns) more (length body) r.0 ends)
                ∙ gives-gives [] (above least ns ++ more) (length head + m) (length body + r.0) ends
                ),
            λ e. let t : r.0 ≡ length rest = r.2 e in omega (arith, t, whole),
          )
    ]

-- ---- the header

pub good : (size miniblocks n : ℕ) → 0 < size → size % 128 ≡ 0 → miniblocks * n ≡ size → 0 < n → n % 32 ≡ 0 → (is_good size miniblocks ≡ true) × (size / miniblocks ≡ n)
good size miniblocks n some even divides few thirty_two =
    let m : 0 < miniblocks = elim (cases_eq miniblocks 0) [
      | inl none ↦ absurd (omega (arith, some, divides, ap (λ (k : ℕ). k * n) none))
      | inr h ↦ omega (arith, h)
    ] in
    let each : size / miniblocks ≡ n = ap (λ (x : ℕ). x / miniblocks) (sym divides) ∙ mul-div_cancel_left n m in
    let back : size / miniblocks * miniblocks + size % miniblocks ≡ size = div-add-mod' size miniblocks in
    let same : size / miniblocks * miniblocks ≡ size = ap (λ (x : ℕ). x * miniblocks) each ∙ omega (arith, divides) in
    let none : size % miniblocks ≡ 0 = omega (arith, back, same) in
    let fits : size / miniblocks % 32 ≡ 0 = ap (λ (x : ℕ). x % 32) each ∙ thirty_two in
    (rw (lt-ltb 0 size some, eq-eqb (size % 128) 0 even, lt-ltb 0 miniblocks m, eq-eqb (size % miniblocks) 0 none, eq-eqb (size / miniblocks % 32) 0 fits) refl, each)

pub found_head : (size miniblocks count first : ℕ) (s m c f body : List ℕ) → IsNumber s size → IsNumber m miniblocks → IsNumber c count → IsNumber f first → is_good size miniblocks ≡ true → head_at (s ++ (m ++ (c ++ (f ++ body)))) ≡ Some (record { size = size; miniblocks = miniblocks; count = count; first = unzigzag first; body = body })
found_head size miniblocks count first s m c f body a b d e ok =
    rw (number_again s size (m ++ (c ++ (f ++ body))) a, number_again m miniblocks (c ++ (f ++ body)) b, number_again c count (f ++ body) d, number_again f first body e, ok) refl

-- ---- all numbers

running_all : (z : ℤ) (ds : List ℤ) → running z (all ds) ≡ all (sums w64 z ds)
running_all z [] = refl
running_all z (d ∷ ds) = ap (λ (t : List (Result ℤ Error)). Ok (wrapped w64 z) ∷ t) (running_all (z +ℤ d) ds)

length-sums : (w : Width) (z : ℤ) (ds : List ℤ) → length (sums w z ds) ≡ suc (length ds)
length-sums w z [] = refl
length-sums w z (d ∷ ds) = ap suc (length-sums w (z +ℤ d) ds)

pub record Reads (cut : Bool) (bytes : List ℕ) (zs : List ℤ) (size : ℕ) : Type 0 where
  pub head : Head
  pub found : head_at bytes ≡ Some head
  pub counts : head.count ≡ length zs
  pub items : (numbers_of head).items ≡ all zs
  pub taken : cut ≡ false → length bytes - length head.body + (numbers_of head).taken ≡ size

all_of_them : (cut : Bool) (h : Head) (q : ℕ) (text after : List ℕ) (ds zs : List ℤ) → 0 < q → h.size / h.miniblocks / 8 ≡ q → h.body ≡ text ++ after → h.count ≡ length zs → Blocks cut h.miniblocks (8 * q) text ds → IsSums w64 h.first ds zs → ((numbers_of h).items ≡ all zs) × (cut ≡ false → (numbers_of h).taken ≡ length text)
all_of_them cut h q text after ds [] some is body count blocks are =
    let none : text ≡ [] = nothing_spelled cut h.miniblocks (8 * q) text ds blocks (ap length are) in
    (rw count refl, λ e. rw count (omega (arith, ap length none)))
all_of_them cut h q text after ds (z ∷ zs) some is body count blocks are =
    let n : length zs ≡ length ds = omega (arith, ap length are, length-sums w64 h.first ds) in
    let r = blocks_read cut h.miniblocks q (length (text ++ after)) text ds after some blocks (omega (arith, length-append text after)) in
    let out : deltas_of h (length zs) ≡ gives ds r.0 ends = rw (is, body, n) r.1 in (
      rw (count, out) (ap (running h.first) (append-nil (all ds)) ∙ running_all h.first ds ∙ ap all (sym are)),
      λ e. rw (count, out) (omega (arith, r.2 e)),
    )

pub delta_read : (cut : Bool) (bytes : List ℕ) (zs : List ℤ) (b : Begins (λ text ys. IsDelta w64 cut text ys) bytes zs) → Reads cut bytes zs (length b.text)
delta_read cut bytes zs b =
    let d = b.spells in
    let q : ℕ = d.n / 8 in
    let n : 8 * q ≡ d.n = omega (arith, d.n_fits.1) in
    let g = good d.size d.miniblocks d.n d.size_fits.0 d.size_fits.1 d.divides d.n_fits.0 d.n_fits.1 in
    let h : Head = record { size = d.size; miniblocks = d.miniblocks; count = d.count; first = unzigzag d.has_first.n; body = d.body ++ b.rest } in
    let parts : bytes ≡ d.size_text ++ (d.miniblocks_text ++ (d.count_text ++ (d.first_text ++ (d.body ++ b.rest)))) =
    b.parts ∙ ap (λ (t : List ℕ). t ++ b.rest) d.parts ∙ simp append_assoc in
    let found : head_at bytes ≡ Some h = ap head_at parts ∙ found_head d.size d.miniblocks d.count d.has_first.n d.size_text d.miniblocks_text d.count_text d.first_text (d.body ++ b.rest) d.has_size d.has_miniblocks d.has_count d.has_first.number g.0 in
    let r = all_of_them cut h q d.body b.rest d.deltas zs (omega (arith, n, d.n_fits.0)) (ap (λ (x : ℕ). x / 8) g.1) refl d.counts (subst (λ (k : ℕ). Blocks cut d.miniblocks k d.body d.deltas) (sym n) d.blocks) (subst (λ (z : ℤ). IsSums w64 z d.deltas zs) d.has_first.is d.are) in
    record {
      head = h;
      found = found;
      counts = d.counts;
      items = r.0;
      taken = λ e. omega (arith, r.1 e, ap length b.parts, length-append b.text b.rest, ap length d.parts, length-append d.size_text (d.miniblocks_text ++ (d.count_text ++ (d.first_text ++ d.body))), length-append d.miniblocks_text (d.count_text ++ (d.first_text ++ d.body)), length-append d.count_text (d.first_text ++ d.body), length-append d.first_text d.body, length-append d.body b.rest);
    }

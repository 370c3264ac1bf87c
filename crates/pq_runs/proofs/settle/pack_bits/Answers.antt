use Rattle.std.proofs.Common.{◌≡◌, ◌+◌, ◌-◌, ◌/◌, ◌%◌, ◌<◌, ◌≤◌, ◌^◌, ◌++◌, ◌∙◌, All, ℕ, List, length, take, drop, ap, sym, subst, arith}
use Rattle.std.proofs.lemmas.List.Elements.{All-take, All-drop, All-append}
use Rattle.std.proofs.lemmas.List.{length-append}
use Rattle.std.proofs.lemmas.Nat.{shr_below}
use Rattle.pq_runs.specs.Words.{bit_numbers}
use Rattle.pq_runs.proofs.BitNumbers.{below_32, length-bit_numbers, numbers-take, numbers-drop}
use Rattle.pq_runs.proofs.Mixed.{filled_of, fit_takes, over_takes, over_tight, over_wrote}
use Rattle.pq_runs.proofs.settle.pack_bits.Goals as goal

pub returns-then-count-room-clause-short : goal.returns-then-count-room-clause-short
returns-then-count-room-clause-short c = fit_takes c.args.width c.args.out.now.items c.args.block.now c.append_bits.new.self (bit_numbers c.args.low c.args.word 0 c.args.count) c.append_bits.ensures

pub returns-clause-below : goal.returns-clause-below
returns-clause-below c =
    let room : ℕ = 504 - c.len-room.result in
    let many : room ≤ length (bit_numbers c.args.low c.args.word 0 c.args.count) = omega (arith, c.if-count-room.false, length-bit_numbers c.args.low c.args.word 0 c.args.count) in
    let first : c.append_bits-2.new.self ≡ c.args.block.now ++ bit_numbers c.args.low (c.args.word % 2 ^ room) 0 room = c.append_bits-2.ensures ∙ ap (λ (w : ℕ). c.args.block.now ++ bit_numbers c.args.low w 0 room) c.low_bits.ensures in
    let last : c.append_bits-3.new.self ≡ c.flush.new.block ++ bit_numbers c.args.low (c.args.word / 2 ^ room) 0 (c.args.count - room) = c.append_bits-3.ensures ∙ ap (λ (w : ℕ). c.flush.new.block ++ bit_numbers c.args.low w 0 (c.args.count - room)) c.high_bits.ensures in
    let f = filled_of c.args.width room c.args.out.now.items c.flush.new.out.items c.args.block.now c.append_bits-2.new.self c.flush.new.block (bit_numbers c.args.low (c.args.word % 2 ^ room) 0 room) (bit_numbers c.args.low (c.args.word / 2 ^ room) 0 (c.args.count - room)) c.append_bits-3.new.self (bit_numbers c.args.low c.args.word 0 c.args.count) (omega (arith, c.len-room.ensures.value, c.len-room.ensures.most)) many first (numbers-take c.args.low c.args.word room c.args.count (omega (arith, c.if-count-room.false))) c.in_ok-flush.ensures.ok.0 last (numbers-drop c.args.low c.args.word room c.args.count (omega (arith, c.if-count-room.false))) c.in_ok-flush.ensures.size in
    subst (λ (t : List ℕ). All (λ v. v < 2 ^ c.args.width) t) (sym f.is) (All-drop (λ v. v < 2 ^ c.args.width) room (bit_numbers c.args.low c.args.word 0 c.args.count) c.requires.numbers)

pub returns-clause-wrote : goal.returns-clause-wrote
returns-clause-wrote c =
    let room : ℕ = 504 - c.len-room.result in
    let many : room ≤ length (bit_numbers c.args.low c.args.word 0 c.args.count) = omega (arith, c.if-count-room.false, length-bit_numbers c.args.low c.args.word 0 c.args.count) in
    let first : c.append_bits-2.new.self ≡ c.args.block.now ++ bit_numbers c.args.low (c.args.word % 2 ^ room) 0 room = c.append_bits-2.ensures ∙ ap (λ (w : ℕ). c.args.block.now ++ bit_numbers c.args.low w 0 room) c.low_bits.ensures in
    let last : c.append_bits-3.new.self ≡ c.flush.new.block ++ bit_numbers c.args.low (c.args.word / 2 ^ room) 0 (c.args.count - room) = c.append_bits-3.ensures ∙ ap (λ (w : ℕ). c.flush.new.block ++ bit_numbers c.args.low w 0 (c.args.count - room)) c.high_bits.ensures in
    let f = filled_of c.args.width room c.args.out.now.items c.flush.new.out.items c.args.block.now c.append_bits-2.new.self c.flush.new.block (bit_numbers c.args.low (c.args.word % 2 ^ room) 0 room) (bit_numbers c.args.low (c.args.word / 2 ^ room) 0 (c.args.count - room)) c.append_bits-3.new.self (bit_numbers c.args.low c.args.word 0 c.args.count) (omega (arith, c.len-room.ensures.value, c.len-room.ensures.most)) many first (numbers-take c.args.low c.args.word room c.args.count (omega (arith, c.if-count-room.false))) c.in_ok-flush.ensures.ok.0 last (numbers-drop c.args.low c.args.word room c.args.count (omega (arith, c.if-count-room.false))) c.in_ok-flush.ensures.size in
    λ start xs s. over_wrote c.args.width room start c.args.out.now.items c.flush.new.out.items c.args.block.now c.append_bits-2.new.self c.append_bits-3.new.self (bit_numbers c.args.low c.args.word 0 c.args.count) xs f.filled f.is c.in_ok-flush.ensures.ok.1 s

pub returns-clause-tight : goal.returns-clause-tight
returns-clause-tight c =
    let room : ℕ = 504 - c.len-room.result in
    let many : room ≤ length (bit_numbers c.args.low c.args.word 0 c.args.count) = omega (arith, c.if-count-room.false, length-bit_numbers c.args.low c.args.word 0 c.args.count) in
    let first : c.append_bits-2.new.self ≡ c.args.block.now ++ bit_numbers c.args.low (c.args.word % 2 ^ room) 0 room = c.append_bits-2.ensures ∙ ap (λ (w : ℕ). c.args.block.now ++ bit_numbers c.args.low w 0 room) c.low_bits.ensures in
    let last : c.append_bits-3.new.self ≡ c.flush.new.block ++ bit_numbers c.args.low (c.args.word / 2 ^ room) 0 (c.args.count - room) = c.append_bits-3.ensures ∙ ap (λ (w : ℕ). c.flush.new.block ++ bit_numbers c.args.low w 0 (c.args.count - room)) c.high_bits.ensures in
    let f = filled_of c.args.width room c.args.out.now.items c.flush.new.out.items c.args.block.now c.append_bits-2.new.self c.flush.new.block (bit_numbers c.args.low (c.args.word % 2 ^ room) 0 room) (bit_numbers c.args.low (c.args.word / 2 ^ room) 0 (c.args.count - room)) c.append_bits-3.new.self (bit_numbers c.args.low c.args.word 0 c.args.count) (omega (arith, c.len-room.ensures.value, c.len-room.ensures.most)) many first (numbers-take c.args.low c.args.word room c.args.count (omega (arith, c.if-count-room.false))) c.in_ok-flush.ensures.ok.0 last (numbers-drop c.args.low c.args.word room c.args.count (omega (arith, c.if-count-room.false))) c.in_ok-flush.ensures.size in
    λ start done t. over_tight c.args.width start _ _ room done c.args.block.now c.append_bits-3.new.self (bit_numbers c.args.low c.args.word 0 c.args.count) f.whole f.within f.left f.size t

pub returns-clause-short : goal.returns-clause-short
returns-clause-short c =
    let room : ℕ = 504 - c.len-room.result in
    let many : room ≤ length (bit_numbers c.args.low c.args.word 0 c.args.count) = omega (arith, c.if-count-room.false, length-bit_numbers c.args.low c.args.word 0 c.args.count) in
    let first : c.append_bits-2.new.self ≡ c.args.block.now ++ bit_numbers c.args.low (c.args.word % 2 ^ room) 0 room = c.append_bits-2.ensures ∙ ap (λ (w : ℕ). c.args.block.now ++ bit_numbers c.args.low w 0 room) c.low_bits.ensures in
    let last : c.append_bits-3.new.self ≡ c.flush.new.block ++ bit_numbers c.args.low (c.args.word / 2 ^ room) 0 (c.args.count - room) = c.append_bits-3.ensures ∙ ap (λ (w : ℕ). c.flush.new.block ++ bit_numbers c.args.low w 0 (c.args.count - room)) c.high_bits.ensures in
    let f = filled_of c.args.width room c.args.out.now.items c.flush.new.out.items c.args.block.now c.append_bits-2.new.self c.flush.new.block (bit_numbers c.args.low (c.args.word % 2 ^ room) 0 room) (bit_numbers c.args.low (c.args.word / 2 ^ room) 0 (c.args.count - room)) c.append_bits-3.new.self (bit_numbers c.args.low c.args.word 0 c.args.count) (omega (arith, c.len-room.ensures.value, c.len-room.ensures.most)) many first (numbers-take c.args.low c.args.word room c.args.count (omega (arith, c.if-count-room.false))) c.in_ok-flush.ensures.ok.0 last (numbers-drop c.args.low c.args.word room c.args.count (omega (arith, c.if-count-room.false))) c.in_ok-flush.ensures.size in
    over_takes c.args.width room c.args.out.now.items c.flush.new.out.items c.args.block.now c.append_bits-3.new.self (bit_numbers c.args.low c.args.word 0 c.args.count) f.whole f.within f.left f.size

pub returns-then-count-room-clause-room : goal.returns-then-count-room-clause-room
returns-then-count-room-clause-room c = omega (arith, ap length c.append_bits.ensures, length-append c.args.block.now (bit_numbers c.args.low c.args.word 0 c.args.count), length-bit_numbers c.args.low c.args.word 0 c.args.count, c.if-count-room.true, c.len-room.ensures.value)

pub append_bits-requires-2-clause-low : goal.append_bits-requires-2-clause-low
append_bits-requires-2-clause-low c =
    let room : ℕ = 504 - c.len-room.result in
    let is : bit_numbers c.args.low c.low_bits.result 0 room ≡ take room (bit_numbers c.args.low c.args.word 0 c.args.count) = ap (λ (w : ℕ). bit_numbers c.args.low w 0 room) c.low_bits.ensures ∙ numbers-take c.args.low c.args.word room c.args.count (omega (arith, c.if-count-room.false)) in
    below_32 c.args.width (bit_numbers c.args.low c.low_bits.result 0 room) c.requires.fits (subst (λ (t : List ℕ). All (λ v. v < 2 ^ c.args.width) t) (sym is) (All-take (λ v. v < 2 ^ c.args.width) room (bit_numbers c.args.low c.args.word 0 c.args.count) c.requires.numbers))

pub flush-requires-clause-whole : goal.flush-requires-clause-whole
flush-requires-clause-whole c =
    let room : ℕ = 504 - c.len-room.result in
    omega (arith, ap length c.append_bits-2.ensures, length-append c.args.block.now (bit_numbers c.args.low c.low_bits.result 0 room), length-bit_numbers c.args.low c.low_bits.result 0 room, c.len-room.ensures.value, c.len-room.ensures.most)

pub flush-requires-clause-below : goal.flush-requires-clause-below
flush-requires-clause-below c =
    let room : ℕ = 504 - c.len-room.result in
    let is : bit_numbers c.args.low c.low_bits.result 0 room ≡ take room (bit_numbers c.args.low c.args.word 0 c.args.count) = ap (λ (w : ℕ). bit_numbers c.args.low w 0 room) c.low_bits.ensures ∙ numbers-take c.args.low c.args.word room c.args.count (omega (arith, c.if-count-room.false)) in
    let front : All (λ v. v < 2 ^ c.args.width) (bit_numbers c.args.low c.low_bits.result 0 room) = subst (λ (t : List ℕ). All (λ v. v < 2 ^ c.args.width) t) (sym is) (All-take (λ v. v < 2 ^ c.args.width) room (bit_numbers c.args.low c.args.word 0 c.args.count) c.requires.numbers) in
    subst (λ (t : List ℕ). All (λ v. v < 2 ^ c.args.width) t) (sym c.append_bits-2.ensures) (All-append (λ v. v < 2 ^ c.args.width) c.args.block.now (bit_numbers c.args.low c.low_bits.result 0 room) c.requires.below front)

pub append_bits-requires-3-clause-word : goal.append_bits-requires-3-clause-word
append_bits-requires-3-clause-word c =
    let room : ℕ = 504 - c.len-room.result in
    let n : c.args.count ≡ c.args.count - room + room = omega (arith, c.if-count-room.false) in
    subst (λ (x : ℕ). x < 2 ^ (c.args.count - room)) (sym c.high_bits.ensures) (shr_below c.args.word (c.args.count - room) room (subst (λ (k : ℕ). c.args.word < 2 ^ k) n c.requires.word))

pub append_bits-requires-3-clause-low : goal.append_bits-requires-3-clause-low
append_bits-requires-3-clause-low c =
    let room : ℕ = 504 - c.len-room.result in
    let is : bit_numbers c.args.low c.high_bits.result 0 (c.args.count - room) ≡ drop room (bit_numbers c.args.low c.args.word 0 c.args.count) = ap (λ (w : ℕ). bit_numbers c.args.low w 0 (c.args.count - room)) c.high_bits.ensures ∙ numbers-drop c.args.low c.args.word room c.args.count (omega (arith, c.if-count-room.false)) in
    below_32 c.args.width (bit_numbers c.args.low c.high_bits.result 0 (c.args.count - room)) c.requires.fits (subst (λ (t : List ℕ). All (λ v. v < 2 ^ c.args.width) t) (sym is) (All-drop (λ v. v < 2 ^ c.args.width) room (bit_numbers c.args.low c.args.word 0 c.args.count) c.requires.numbers))

pub returns-clause-room : goal.returns-clause-room
returns-clause-room c =
    let room : ℕ = 504 - c.len-room.result in
    let many : room ≤ length (bit_numbers c.args.low c.args.word 0 c.args.count) = omega (arith, c.if-count-room.false, length-bit_numbers c.args.low c.args.word 0 c.args.count) in
    let first : c.append_bits-2.new.self ≡ c.args.block.now ++ bit_numbers c.args.low (c.args.word % 2 ^ room) 0 room = c.append_bits-2.ensures ∙ ap (λ (w : ℕ). c.args.block.now ++ bit_numbers c.args.low w 0 room) c.low_bits.ensures in
    let last : c.append_bits-3.new.self ≡ c.flush.new.block ++ bit_numbers c.args.low (c.args.word / 2 ^ room) 0 (c.args.count - room) = c.append_bits-3.ensures ∙ ap (λ (w : ℕ). c.flush.new.block ++ bit_numbers c.args.low w 0 (c.args.count - room)) c.high_bits.ensures in
    let f = filled_of c.args.width room c.args.out.now.items c.flush.new.out.items c.args.block.now c.append_bits-2.new.self c.flush.new.block (bit_numbers c.args.low (c.args.word % 2 ^ room) 0 room) (bit_numbers c.args.low (c.args.word / 2 ^ room) 0 (c.args.count - room)) c.append_bits-3.new.self (bit_numbers c.args.low c.args.word 0 c.args.count) (omega (arith, c.len-room.ensures.value, c.len-room.ensures.most)) many first (numbers-take c.args.low c.args.word room c.args.count (omega (arith, c.if-count-room.false))) c.in_ok-flush.ensures.ok.0 last (numbers-drop c.args.low c.args.word room c.args.count (omega (arith, c.if-count-room.false))) c.in_ok-flush.ensures.size in
    omega (arith, f.left, length-bit_numbers c.args.low c.args.word 0 c.args.count, c.requires.few)

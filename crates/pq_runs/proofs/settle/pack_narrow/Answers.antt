use Rattle.std.proofs.Common.{◌-◌, ◌<◌, ◌^◌, All, ℕ, List, sym, subst, arith}
use Rattle.std.proofs.lemmas.List.Elements.{All-drop}
use Rattle.pq_runs.proofs.Mixed.{filled_of, fit_takes, over_takes, over_tight, over_wrote}
use Rattle.pq_runs.proofs.settle.pack_narrow.Goals as goal

pub returns-then-numbers-room-clause-short : goal.returns-then-numbers-room-clause-short
returns-then-numbers-room-clause-short c = fit_takes c.args.width c.args.out.now.items c.args.block.now c.append_narrow.new.self c.args.numbers.now c.append_narrow.ensures

pub returns-clause-below : goal.returns-clause-below
returns-clause-below c =
    let room : ℕ = 504 - c.len-room.result in
    let f = filled_of c.args.width room c.args.out.now.items c.flush.new.out.items c.args.block.now c.append_narrow-2.new.self c.flush.new.block c.narrow_front.result.now c.narrow_behind.result.now c.append_narrow-3.new.self c.args.numbers.now (omega (arith, c.len-room.ensures.value, c.len-room.ensures.most)) (omega (arith, c.if-numbers-room.false)) c.append_narrow-2.ensures c.narrow_front.ensures c.in_ok-flush.ensures.ok.0 c.append_narrow-3.ensures c.narrow_behind.ensures c.in_ok-flush.ensures.size in
    subst (λ (t : List ℕ). All (λ v. v < 2 ^ c.args.width) t) (sym f.is) (All-drop (λ v. v < 2 ^ c.args.width) room c.args.numbers.now c.requires.numbers)

pub returns-clause-wrote : goal.returns-clause-wrote
returns-clause-wrote c =
    let room : ℕ = 504 - c.len-room.result in
    let f = filled_of c.args.width room c.args.out.now.items c.flush.new.out.items c.args.block.now c.append_narrow-2.new.self c.flush.new.block c.narrow_front.result.now c.narrow_behind.result.now c.append_narrow-3.new.self c.args.numbers.now (omega (arith, c.len-room.ensures.value, c.len-room.ensures.most)) (omega (arith, c.if-numbers-room.false)) c.append_narrow-2.ensures c.narrow_front.ensures c.in_ok-flush.ensures.ok.0 c.append_narrow-3.ensures c.narrow_behind.ensures c.in_ok-flush.ensures.size in
    λ start xs s. over_wrote c.args.width room start c.args.out.now.items c.flush.new.out.items c.args.block.now c.append_narrow-2.new.self c.append_narrow-3.new.self c.args.numbers.now xs f.filled f.is c.in_ok-flush.ensures.ok.1 s

pub returns-clause-tight : goal.returns-clause-tight
returns-clause-tight c =
    let room : ℕ = 504 - c.len-room.result in
    let f = filled_of c.args.width room c.args.out.now.items c.flush.new.out.items c.args.block.now c.append_narrow-2.new.self c.flush.new.block c.narrow_front.result.now c.narrow_behind.result.now c.append_narrow-3.new.self c.args.numbers.now (omega (arith, c.len-room.ensures.value, c.len-room.ensures.most)) (omega (arith, c.if-numbers-room.false)) c.append_narrow-2.ensures c.narrow_front.ensures c.in_ok-flush.ensures.ok.0 c.append_narrow-3.ensures c.narrow_behind.ensures c.in_ok-flush.ensures.size in
    λ start done t. over_tight c.args.width start _ _ room done c.args.block.now c.append_narrow-3.new.self c.args.numbers.now f.whole f.within f.left f.size t

pub returns-clause-short : goal.returns-clause-short
returns-clause-short c =
    let room : ℕ = 504 - c.len-room.result in
    let f = filled_of c.args.width room c.args.out.now.items c.flush.new.out.items c.args.block.now c.append_narrow-2.new.self c.flush.new.block c.narrow_front.result.now c.narrow_behind.result.now c.append_narrow-3.new.self c.args.numbers.now (omega (arith, c.len-room.ensures.value, c.len-room.ensures.most)) (omega (arith, c.if-numbers-room.false)) c.append_narrow-2.ensures c.narrow_front.ensures c.in_ok-flush.ensures.ok.0 c.append_narrow-3.ensures c.narrow_behind.ensures c.in_ok-flush.ensures.size in
    over_takes c.args.width room c.args.out.now.items c.flush.new.out.items c.args.block.now c.append_narrow-3.new.self c.args.numbers.now f.whole f.within f.left f.size

use Rattle.std.proofs.Common.{◌≡◌, ℕ, ◌+◌, ◌*◌, ◌<◌, ◌∙◌, List, [], arith, ap, sym, subst, refl, map, take, length}
use Rattle.read_column.specs.Dictionary.{text_at}
use Rattle.read_column.specs.Lookups.{AreLaidAs}
use Rattle.read_column.proofs.Gathering.{laid_more}
use Rattle.read_column.proofs.lookup.put_each.Goals as goal

pub loop-i-init : goal.loop-i-init
loop-i-init g c =
    let none : g.row.N * 0 ≡ 0 = omega arith in
    record { laid = subst (λ (k : ℕ). AreLaidAs (map (text_at c.args.body.now) c.args.places.now) [] (take k c.args.out.now)) (sym none) ([], tt, refl) }

pub loop-i-preserved : goal.loop-i-preserved
loop-i-preserved g c =
    let texts = map (text_at c.args.body.now) c.args.places.now in
    let i : ℕ = c.loop-i.i in
    let n : ℕ = g.row.N in
    let indices = c.args.indices.now in
    let within : i < length indices = omega (arith, c.loop-i-test.true, c.requires.few) in
    let on : n * (i + 1) ≡ n * i + n = omega arith in
    let put : take (n * (i + 1)) c.put_chunk.new.out ≡ _ = ap (λ (k : ℕ). take k c.put_chunk.new.out) on ∙ c.put_chunk.ensures in
    record { laid = subst (λ (t : List ℕ). AreLaidAs texts (take (i + 1) indices) t) (sym put) (laid_more texts i indices (take (n * i) c.loop-i.out) (take n c.in-Some.text.now) within c.in-Some.ensures.1 c.loop-i.invariant.laid) }

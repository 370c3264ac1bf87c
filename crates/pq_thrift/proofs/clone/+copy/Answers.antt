use Rattle.std.proofs.Common.{◌≡◌, ℕ, map, sym, ap, ◌∙◌, rules, Vec, Global}
use Rattle.pq_thrift.specs.Value.{view, pair_view, pairs_of, map as map_value}
use Rattle.pq_thrift.specs.declared.value.Thrift.{Thrift, Map, the_lemmas}
use Rattle.pq_thrift.proofs.clone.+copy.Goals as goal

seen : (k v : ℕ) (ps : Vec (Thrift × Thrift) Global) → view (Map k v ps) ≡ map_value k v (pairs_of (map pair_view ps.items))
seen k v ps = search (rules, the_lemmas)

pub copy-returns-in_ok-copy_pairs-in-Map : goal.copy-returns-in_ok-copy_pairs-in-Map
copy-returns-in_ok-copy_pairs-in-Map t c =
    let k = c.in-Map.keys in
    let v = c.in-Map.values in
    seen k v c.in_ok-copy_pairs-in-Map.field-0 ∙ ap (λ ps. map_value k v (pairs_of ps)) c.in_ok-copy_pairs-in-Map.ensures ∙ sym (seen k v c.in-Map.pairs) ∙ ap view (sym c.in-Map.is)

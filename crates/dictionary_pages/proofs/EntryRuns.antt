-- Entries run by run.
use Rattle.std.proofs.Common.{◌≡◌, ◌≢◌, ℕ, ◌+◌, ◌-◌, ◌^◌, ◌≤◌, min, List, [], ◌∷◌, ◌++◌, map, refl, ap, sym, subst, ◌∙◌, arith}
use Rattle.std.proofs.lemmas.List.{map-append}
use Rattle.shredding.specs.Slot.{Value}
use Rattle.columns_slots.specs.Slots.{tree_len}
use Rattle.columns_slots.specs.Tree.{ArrayTree}
use Rattle.pq_tree.specs.Physical.{Physical, boolean}
use Rattle.pq_files.specs.Layout.{plain_length}
use Rattle.pq_files.specs.Room.{max_size}
use Rattle.write_places.specs.Places.{range}
use Rattle.write_places.proofs.Gather.{gather-none, gather-split}
use Rattle.write_values.specs.Lengths.{back_fits, front_fits, plain-places, plain_sum}
use Rattle.write_values.specs.Rows.{AppendsRow, row-none}
use Rattle.write_values.proofs.InRows.{row-more}
use Rattle.dictionary_pages.specs.Entries.{stored_entries, stored_entry_at}
use Rattle.dictionary_pages.proofs.Fillers.{entries_are}

split_at : (from mid to : ℕ) → from ≤ mid → mid ≤ to → range from (to - from) ≡ range from (mid - from) ++ range mid (to - mid)
split_at from mid to low high = gather-split (λ j. j ∷ []) from mid to low high

front_at : (mid to : ℕ) → mid ≤ to → range 0 to ≡ range 0 mid ++ range mid (to - mid)
front_at mid to high =
    let a : to - 0 ≡ to = omega arith in
    let b : mid - 0 ≡ mid = omega arith in
    ap (range 0) (sym a) ∙ (split_at 0 mid to (omega arith) high ∙ ap (λ (k : ℕ). range 0 k ++ range mid (to - mid)) b)

module _ (c : ArrayTree) (p : Physical) (n : p ≢ boolean) where
  abbrev at : ℕ → Value
  at = stored_entry_at c p

  abbrev pub size_to : ℕ → ℕ
  size_to k = plain_length p (map at (range 0 k))

  pub size_none : 0 ≡ min (size_to 0) (2 ^ 128 - 1)
  size_none = let e : size_to 0 ≡ 0 = ap (λ (xs : List ℕ). plain_length p (map at xs)) (gather-none (λ j. j ∷ []) 0 0 refl) ∙ plain_sum p [] n in omega (arith, e)

  pub size_more : (mid end size m more : ℕ) → mid ≤ end → size ≡ min (size_to mid) (2 ^ 128 - 1) → m ≡ plain_length p (map at (range mid (end - mid))) → more ≡ min (size + m) (2 ^ 128 - 1) → more ≡ min (size_to end) (2 ^ 128 - 1)
  size_more mid end size m more high s e g =
      let sum : size_to end ≡ size_to mid + plain_length p (map at (range mid (end - mid))) = ap (λ (xs : List ℕ). plain_length p (map at xs)) (front_at mid end high) ∙ plain-places p at (range 0 mid) (range mid (end - mid)) n in
      omega (arith, s, e, g, sum)

  pub size_all : size_to (tree_len c) ≡ plain_length p (stored_entries c p)
  size_all = ap (plain_length p) (sym (entries_are c p))

  -- each run of entries that fit into a page does
  pub run_fits : (mid end : ℕ) → mid ≤ end → end ≤ tree_len c → plain_length p (stored_entries c p) ≤ max_size → plain_length p (map at (range mid (end - mid))) ≤ max_size
  run_fits mid end low high h =
      let whole : range 0 (tree_len c) ≡ range 0 mid ++ (range mid (end - mid) ++ range end (tree_len c - end)) = front_at mid (tree_len c) (omega (arith, low, high)) ∙ ap (λ (xs : List ℕ). range 0 mid ++ xs) (split_at mid end (tree_len c) low high) in
      let all : plain_length p (map at (range 0 mid ++ (range mid (end - mid) ++ range end (tree_len c - end)))) ≤ max_size = subst (λ (xs : List ℕ). plain_length p (map at xs) ≤ max_size) whole (omega (arith, h, size_all)) in
      front_fits p at (range mid (end - mid)) (range end (tree_len c - end)) n (back_fits p at (range 0 mid) (range mid (end - mid) ++ range end (tree_len c - end)) n all)

  pub runs_none : (out : List ℕ) → AppendsRow p out out (map at (range 0 0))
  runs_none out = subst (λ (xs : List ℕ). AppendsRow p out out (map at xs)) (sym (gather-none (λ j. j ∷ []) 0 0 refl)) (row-none p out)

  pub runs_more : (mid end : ℕ) (a b d : List ℕ) → mid ≤ end → AppendsRow p a b (map at (range 0 mid)) → AppendsRow p b d (map at (range mid (end - mid))) → AppendsRow p a d (map at (range 0 end))
  runs_more mid end a b d high h g =
      subst (λ (vs : List Value). AppendsRow p a d vs) (sym (map-append at (range 0 mid) (range mid (end - mid))) ∙ ap (map at) (sym (front_at mid end high))) (row-more p a b d (map at (range 0 mid)) (map at (range mid (end - mid))) h g)

  pub runs_all : (a d : List ℕ) → AppendsRow p a d (map at (range 0 (tree_len c))) → AppendsRow p a d (stored_entries c p)
  runs_all a d h = subst (λ (vs : List Value). AppendsRow p a d vs) (sym (entries_are c p)) h

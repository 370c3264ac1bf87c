-- The width of what waits.
use Rattle.std.proofs.Common.{◌≡◌, ℕ, List, [], ◌∷◌, ◌++◌, ap, subst, sym, ◌∙◌}
use Rattle.std.specs.Prelude.{All}
use Rattle.std.proofs.lemmas.List.Elements.{All-nil, All-push, All-same, All-weaker}
use Rattle.read_walk.specs.Pairs.{Item}
use Rattle.read_walk.specs.Values.{Stored}
use Rattle.read_column.specs.Queues.{Waiting, closed_queue, ExtendsLast}

-- behind pairs, and behind a piece that is whole
pub same-width : (suits : ℕ → Type 0) (q q' : Waiting) (page page' : List Item) (left left' : List Stored) → ExtendsLast q q' page page' left left' → suits q.width → suits q'.width
same-width suits q q' page page' left left' x s = subst suits (sym (ap (λ (v : Waiting). v.width) x.same)) s

pub kept-width : (suits : ℕ → Type 0) (q q' q2 : Waiting) (page page' : List Item) (left left' : List Stored) → ExtendsLast q q' page page' left left' → q2 ≡ closed_queue q' → suits q.width → suits q2.width
kept-width suits q q' q2 page page' left left' x e s = subst suits (sym (ap (λ (v : Waiting). v.width) e)) (same-width suits q q' page page' left left' x s)

-- ---- the whole pieces: all have the width of the last one
module _ {K V : Type 0} (width : V → ℕ) where
  pub all-kept : (n m : ℕ) (ps : List (K × V)) → m ≡ n → All (λ p. width p.1 ≡ n) ps → All (λ p. width p.1 ≡ m) ps
  all-kept n m ps e a = All-weaker (λ p. width p.1 ≡ n) (λ p. width p.1 ≡ m) (λ p h. h ∙ sym e) ps a

  pub all-pushed : (v : V) (m : ℕ) (ps qs : List (K × V)) (k : K) → m ≡ width v → qs ≡ ps ++ (k, v) ∷ [] → All (λ p. width p.1 ≡ width v) ps → All (λ p. width p.1 ≡ m) qs
  all-pushed v m ps qs k e s a = All-same (λ p. width p.1 ≡ m) qs (ps ++ (k, v) ∷ []) s (All-push (λ p. width p.1 ≡ m) ps (k, v) (all-kept (width v) m ps e a) (sym e))

  pub all-of-none : (n : ℕ) (ps : List (K × V)) → ps ≡ [] → All (λ p. width p.1 ≡ n) ps
  all-of-none n ps e = All-same (λ p. width p.1 ≡ n) ps [] e (All-nil (λ p. width p.1 ≡ n))

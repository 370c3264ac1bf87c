-- All pages of a chunk are in one encoding.
use Rattle.std.proofs.Common.{◌≡◌, ◌<◌, List, [], ◌∷◌, length, All, Option, Some, sym, ap, ◌∙◌, arith}
use Rattle.std.specs.List.{AllByRecursion as Each}
use Rattle.std.proofs.lemmas.List.Elements.{All-from_recursion, recursion_from_All}
use Rattle.pq_files.specs.Layout.{OutPage}
use Rattle.pq_files.specs.Page.{Encoding}
use Rattle.pq_files.specs.Written.{encoding_in}

inside : Option Encoding → Encoding → Encoding
inside (Some e) d = e
inside _ d = d

inside_some : (v : Option Encoding) (e d : Encoding) → v ≡ Some e → inside v d ≡ e
unfolding inside
inside_some v e d h = ap (λ x. inside x d) h

one : (v : Option Encoding) (d e : Encoding) (ps : List OutPage) → v ≡ Some e → Each (λ p. v ≡ Some p.encoding) ps → Each (λ p. p.encoding ≡ e) ps
one v d e [] q h = tt
one v d e (p ∷ ps) q h = (sym (inside_some v p.encoding d h.0) ∙ inside_some v e d q, one v d e ps q h.1)

pub first_is : (v : Option Encoding) (ps : List OutPage) → 0 < length ps → All (λ p. v ≡ Some p.encoding) ps → v ≡ Some (encoding_in ps)
first_is v [] some h = absurd (omega (arith, some))
first_is v (p ∷ ps) some h = (recursion_from_All (λ (o : OutPage). v ≡ Some o.encoding) (p ∷ ps) h).0

pub all_are : (v : Option Encoding) (ps : List OutPage) → 0 < length ps → All (λ p. v ≡ Some p.encoding) ps → All (λ p. p.encoding ≡ encoding_in ps) ps
all_are v ps some h = All-from_recursion (λ (o : OutPage). o.encoding ≡ encoding_in ps) ps (one v (encoding_in ps) (encoding_in ps) ps (first_is v ps some h) (recursion_from_All (λ (o : OutPage). v ≡ Some o.encoding) ps h))

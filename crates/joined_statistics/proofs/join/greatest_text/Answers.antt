use Rattle.std.proofs.Common.{◌≡◌, ◌∙◌, ◌++◌, List, Option, Some, Vec, Global, ℕ, option_map, subst, sym}
use Rattle.pq_tree.specs.Views.{bytes_view}
use Rattle.page_statistics.specs.Spelled.{IsSpelled}
use Rattle.joined_statistics.specs.Told.{IsGreatestText}
use Rattle.joined_statistics.proofs.Joined.{greatest_first, greatest_second}
use Rattle.joined_statistics.proofs.join.greatest_text.Goals as goal

pub returns-then-is_text_less-clause-ok : goal.returns-then-is_text_less-clause-ok
returns-then-is_text_less-clause-ok c = λ t p xs ys o h k.
    let text = c.in-Some-first.text.items in
    let other = c.in-Some.other.items in
    let copy : other ≡ c.in_ok-from_slice-2.field-0.items = sym (c.in_ok-from_slice-2.ensures.items ∙ c.deref-then-is_text_less.ensures.value) in
    let h' : IsGreatestText t p xs (Some text) = subst (λ (x : Option (Vec ℕ Global)). IsGreatestText t p xs (option_map bytes_view x)) c.in-Some-first.is h in
    let k' : IsGreatestText t p ys (Some other) = subst (λ (x : Option (Vec ℕ Global)). IsGreatestText t p ys (option_map bytes_view x)) c.in-Some.is k in
    subst (λ (s : List ℕ). IsGreatestText t p (xs ++ ys) (Some s)) copy
    (greatest_second t p xs ys text other h' k'
    (λ a b i j. c.is_text_less.ensures.less c.if-is_text_less.true t p a b o (subst (λ (s : List ℕ). IsSpelled t p s a) (sym c.deref-2.ensures.value) i) (subst (λ (s : List ℕ). IsSpelled t p s b) (sym c.deref-3.ensures.value) j)))

pub returns-clause-ok : goal.returns-clause-ok
returns-clause-ok c = λ t p xs ys o h k.
    let text = c.in-Some-first.text.items in
    let other = c.in-Some.other.items in
    let h' : IsGreatestText t p xs (Some text) = subst (λ (x : Option (Vec ℕ Global)). IsGreatestText t p xs (option_map bytes_view x)) c.in-Some-first.is h in
    let k' : IsGreatestText t p ys (Some other) = subst (λ (x : Option (Vec ℕ Global)). IsGreatestText t p ys (option_map bytes_view x)) c.in-Some.is k in
    greatest_first t p xs ys text other h' k'
    (λ a b i j. c.is_text_less.ensures.other c.if-is_text_less.false t p a b o (subst (λ (s : List ℕ). IsSpelled t p s a) (sym c.deref-2.ensures.value) i) (subst (λ (s : List ℕ). IsSpelled t p s b) (sym c.deref-3.ensures.value) j))

-- What a source gives behind the bytes that came before.
use Rattle.std.proofs.Common.{◌≡◌, ◌+◌, ◌≤◌, ◌++◌, ℕ, List, Option, Result, Ok, Err, IfOk, take, length, ap, subst, ◌∙◌, arith, length-append}
use borrow.Rule.Slice.PartMut.{put_mid, post_of}
use Rattle.std.proofs.Math.Seq.{take-append-add}
use Rattle.std.proofs.lemmas.List.{length-take-le, take-append-le}
use Rattle.std.specs.Io.{ReadsAtMost}
use Rattle.std.specs.Io.KnownBytes.{Consumes, ReadConsumes}

-- the front of what is written behind other items
front-put : (k n m : ℕ) (xs ys : List ℕ) → k ≤ length xs → m ≤ length ys → take (k + m) (put_mid k n xs ys) ≡ take k xs ++ take m ys
front-put k n m xs ys h l =
    let size : length (take k xs) ≡ k = length-take-le k xs h in
    subst (λ (j : ℕ). take (j + m) (put_mid k n xs ys) ≡ take k xs ++ take m ys) size (take-append-add (take k xs) (ys ++ post_of k n xs) m ∙ ap (λ (t : List ℕ). take k xs ++ t) (take-append-le m ys (post_of k n xs) l))

-- how many items there are with those put behind others
put-reaches : (k n m : ℕ) (xs ys : List ℕ) → k ≤ length xs → m ≤ length ys → k + m ≤ length (put_mid k n xs ys)
put-reaches k n m xs ys h l = omega (arith, length-append (take k xs) (ys ++ post_of k n xs), length-append ys (post_of k n xs), length-take-le k xs h)

-- bytes that were pulled to the places behind the first `k`
pub gave-behind : {E : Type 0} (r : Result ℕ E) (k n : ℕ) (xs ys : List ℕ) (old new : Option (List ℕ)) → k ≤ length xs → ReadsAtMost r ys → ReadConsumes old new r ys → IfOk r (λ m. (k + m ≤ length (put_mid k n xs ys)) × ((bs : List ℕ) × Consumes old new bs × (take (k + m) (put_mid k n xs ys) ≡ take k xs ++ bs)))
gave-behind (Ok m) k n xs ys old new h b c = (put-reaches k n m xs ys h b.0, (take m ys, c.0, front-put k n m xs ys h b.0))
gave-behind (Err e) k n xs ys old new h b c = tt

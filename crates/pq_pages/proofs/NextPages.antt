-- The next page by its header.
use Rattle.std.proofs.Common.{◌≡◌, ℕ, ◌+◌, ◌<◌, ◌≤◌, List, length, take, drop, Bool, cond, Ok, Err, ap, ◌∙◌}
use Rattle.std.proofs.lemmas.Bool.{lt-ltb, le-ltb}
use Rattle.columns_base.specs.declared.error.Error.{Error}
use Rattle.columns_base.specs.declared.error.Error.TheVariants.{OutOfSpec}
use Rattle.columns_base.specs.declared.error.S.TheVariants.{S3}
use Rattle.pq_metadata.specs.Header.{PageHeader}
use Rattle.pq_pages.specs.Headers.{header_at}
use Rattle.pq_pages.specs.Reading.{body_behind, next_page}

pub by_error : (max : ℕ) (bytes : List ℕ) (e : Error) → header_at (take max bytes) ≡ Err e → next_page max bytes ≡ Err e
unfolding next_page
by_error max bytes e is = ap (body_behind bytes) is

pub by_body : (max : ℕ) (bytes : List ℕ) (h : PageHeader) (n : ℕ) → header_at (take max bytes) ≡ Ok (h, n) → n + h.size ≤ length bytes → next_page max bytes ≡ Ok (record { header = h.header; body = take h.size (drop n bytes) }, drop (n + h.size) bytes)
unfolding next_page
by_body max bytes h n is fits = ap (body_behind bytes) is ∙ ap (λ (b : Bool). cond b (Err (OutOfSpec S3)) (Ok (record { header = h.header; body = take h.size (drop n bytes) }, drop (n + h.size) bytes))) (le-ltb (length bytes) (n + h.size) fits)

pub by_cut : (max : ℕ) (bytes : List ℕ) (h : PageHeader) (n : ℕ) → header_at (take max bytes) ≡ Ok (h, n) → length bytes < n + h.size → next_page max bytes ≡ Err (OutOfSpec S3)
unfolding next_page
by_cut max bytes h n is cut = ap (body_behind bytes) is ∙ ap (λ (b : Bool). cond b (Err (OutOfSpec S3)) (Ok (record { header = h.header; body = take h.size (drop n bytes) }, drop (n + h.size) bytes))) (lt-ltb (length bytes) (n + h.size) cut)

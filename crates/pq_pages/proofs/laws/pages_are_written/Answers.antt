use Rattle.std.proofs.Common.{Bool, ℕ, subst, refl, length, ap₂}
use Rattle.pq_thrift.specs.Value.{Value}
use Rattle.pq_thrift.specs.Written.{IsWritten}
use Rattle.pq_pages.specs.HeaderValue.{dict_value}
use Rattle.pq_pages.proofs.laws.pages_are_written.Goals as goal

pub returns : goal.returns
returns c =
    record {
      data_pages =
          λ version l entries out page head is some header. record {
            head = head;
            body = page.buffer;
            parts = refl;
            definition = is.definition;
            repetition = is.repetition;
            header = subst (λ (v : Value). IsWritten head v) (is.header (length page.buffer)) header;
            page = is.body;
            encoding = is.encoding;
            some = some;
          };
      dictionary_pages =
          λ l entries page head is header. record {
            head = head;
            body = page.buffer.items;
            parts = refl;
            header = subst (λ (v : Value). IsWritten head v) (ap₂ (λ (n : ℕ) (b : Bool). dict_value n b (length page.buffer.items)) is.count is.unsorted) header;
            plain = is.plain;
          };
    }

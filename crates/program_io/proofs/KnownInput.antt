-- What was read so far, of bytes that are known or not.
use Rattle.std.proofs.Common.{ℕ, ◌+◌, ◌≤◌, List, ◌++◌, length, Option, Some, None, sym, ap, ◌∙◌, arith, append_assoc}
use Rattle.std.proofs.lemmas.List.{length-append}
use Rattle.std.specs.Io.KnownBytes.{Consumes}
use Rattle.program_io.specs.Device.{ReadsSome}

consumes_append : (a b c : Option (List ℕ)) (xs ys : List ℕ) → Consumes a b xs → Consumes b c ys → Consumes a c (xs ++ ys)
consumes_append None b c xs ys first then = tt
consumes_append (Some xa) None c xs ys first then = absurd first
consumes_append (Some xa) (Some xb) None xs ys first then = absurd then
consumes_append (Some xa) (Some xb) (Some xc) xs ys first then = first ∙ ap (λ rest. xs ++ rest) then ∙ sym (append_assoc xs ys xc)

-- what was read, and then some more
pub reads_more : (a b c : Option (List ℕ)) (xs : List ℕ) (most limit : ℕ) → Consumes a b xs → ReadsSome b c most → length xs + most ≤ limit → ReadsSome a c
    limit
reads_more a b c xs most limit first more room = record {
  bytes = xs ++ more.bytes;
  consumes = consumes_append a b c xs more.bytes first more.consumes;
  within = omega (arith, length-append xs more.bytes, more.within, room);
}

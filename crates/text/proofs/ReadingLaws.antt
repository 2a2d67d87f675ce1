-- Bytes read behind those that were read: they stand at the front of the buffer together.
-- Assumes nothing.
use Rattle.std.proofs.Common.{◌≡◌, ℕ, ◌+◌, ◌≤◌, List, ◌++◌, Option, length, take, sym, ap, subst, ◌∙◌}
use Rattle.std.proofs.Math.Seq.{take-append-add}
use Rattle.std.proofs.lemmas.List.{length-take-le, take-append-le}
use Rattle.std.proofs.KnownBytes.{Consumes-nil, Consumes-trans}
use Rattle.std.specs.Io.KnownBytes.{Consumes}
use borrow.Rule.Slice.PartMut.{put_mid, post_of}

pub read_none : (a : Option (List ℕ)) (buffer : List ℕ) → Consumes a a (take 0 buffer)
read_none a buffer = Consumes-nil a

module _ (end room n : ℕ) (buffer more : List ℕ) (front : end ≤ length buffer) where
  both : n ≤ length more → take (end + n) (put_mid end room buffer more) ≡ take end buffer ++ take n more
  both fits =
      let at_end : length (take end buffer) ≡ end = length-take-le end buffer front in
      ap (λ k. take (k + n) (put_mid end room buffer more)) (sym at_end) ∙ take-append-add (take end buffer) (more ++ post_of end room buffer) n
      ∙ ap (λ l. take end buffer ++ l) (take-append-le n more (post_of end room buffer) fits)

  pub read_more : (a b c : Option (List ℕ)) → n ≤ length more → Consumes a b (take end buffer) → Consumes b c (take n more) → Consumes a c (take (end + n) (put_mid end room buffer more))
  read_more a b c fits first second = subst (Consumes a c) (sym (both fits)) (Consumes-trans a b c _ _ first second)

-- A prefix-closed set, joined to the context, stays within the specification exactly when it lies inside the plain answer; and the plain answer
-- "is the largest prefix-closed part of the complement of (context composed with the complement of the specification)".
-- Assumes nothing.
use mathlib.Core.Path.{refl, sym, ap, subst, ◌∙◌}
use mathlib.Core.Logic.{◌↔◌}
use mathlib.Core.List.{List, [], ◌++◌, map, append-nil, append_assoc}
use Rattle.words.specs.Words.{Words, ◌⊆◌, PrefixClosed, LargestPrefixClosedPart, JoinedStaysWithin, PlainOf, Breaking, Complement, run}
use Rattle.words.specs.System.{System, Letter, letter, Combined, controller_word, Specified, Within, StaysWithin, Plain}
use Rattle.words.proofs.Words.{dec_some}

module _ {Step L Outside : Type 0} (letter : Step → L) (outside : Step → Outside) (Context : Words Step) (Specification : Words Outside) where
  abbrev plain : Words L
  plain = PlainOf letter outside Context Specification

  plain_closed : PrefixClosed plain
  plain_closed p z h p' z' e = h p' (z' ++ z) (sym (append_assoc p' z' z) ∙ ap (λ w. w ++ z) e)

  within_iff_plain : (X : Words L) → PrefixClosed X → JoinedStaysWithin letter outside Context Specification X ↔ (X ⊆ plain)
  within_iff_plain X closed = (
    λ stays w x p z e α k o. stays α k (subst X (sym o) (closed p z (subst X (sym e) x))),
    λ inside α k x. inside (map letter α) x (map letter α) [] (append-nil _) α k refl,
  )

  -- where it is decided whether the specification can run a word
  plain_largest : ((o : List Outside) → ¬ (¬ Specification o) → Specification o)
      → LargestPrefixClosedPart plain (Complement (Breaking letter outside Context Specification))
  plain_largest decided = record {
    closed = plain_closed;
    part = λ w h b. b.3 (h w [] (append-nil w) b.0 b.1 b.2);
    largest = λ X closed never. (within_iff_plain X closed).0 (λ α k x. decided _ (λ n. never _ x (α, k, refl, n)));
  }

module _ (s : System) where
  -- staying within, in the words of document 01: every combined word over a word of X stays within the specification
  pub stays_within_says : (X : Words (Letter s)) → StaysWithin s X ↔ ((α : List s.Step) → Combined s α → X (controller_word s α) → Within s α)
  stays_within_says X = (λ h. h, λ h. h)

  -- "joined to the context, stays within the specification exactly when it lies inside the plain answer"
  pub stays_within_iff_plain : (X : Words (Letter s)) → PrefixClosed X → StaysWithin s X ↔ (X ⊆ Plain s)
  stays_within_iff_plain = within_iff_plain (letter s) s.outside (Combined s) (Specified s)

  pub plain_is_largest : LargestPrefixClosedPart (Plain s) (Complement (Breaking (letter s) s.outside (Combined s) (Specified s)))
  plain_is_largest = plain_largest (letter s) s.outside (Combined s) (Specified s) (λ o. dec_some (run s.spc s.c0 o))

-- What document 01 calls incomplete, leaving and blocking, of a controller table by its states and triples, is what is wrong with its words. A
-- good controller has none of the three.
-- Assumes nothing.
use mathlib.Core.Path.{◌≡◌, refl, sym, subst}
use mathlib.Core.Logic.{◌↔◌, ∥∥₁_elim}
use mathlib.Core.HLevel.{⊥_prop}
use mathlib.Core.Option.{Option, none, some, IsSome}
use mathlib.Core.List.{List, [], ◌∷◌, ◌++◌, map}
use Rattle.words.specs.Words.{Words, run, Runs}
use Rattle.words.specs.System.{System, Letter, letter, Good}
use Rattle.words.specs.Fit.{Triple}
use Rattle.words.specs.Faulty.{LacksReply, LeavesSpecification, LacksContinuation}
use Rattle.words.proofs.Words.{known, is_some, not_both, run_last, first_step, runs_cons}
use Rattle.words.proofs.Fit.{read_last, triple_last}

module _ (s : System) {D : Type 0} (step : D → Letter s → Option D) where
  open s use {U, R, Input, Step, input, outside, A, ctx, C, spc, asked}

  -- "a state reached by its own rows has no row for some u"
  pub record Lacking (d0 : D) : Type 0 where
    pub word : List (Letter s)
    pub d : D
    pub reached : run step d0 word ≡ some d
    pub u : U
    pub no_row : (r : R) → ¬ IsSome (step d (u, r))

  -- "from some triple a joint step has no specification row", of the triples with P
  pub record Leaving (P : A → C → D → Type 0) : Type 0 where
    pub a : A
    pub c : C
    pub d : D
    pub x : Step
    pub from : P a c d
    pub context : IsSome (ctx a x)
    pub controller : IsSome (step d (letter s x))
    pub no_row : spc c (outside x) ≡ none

  -- on i the context from a and the controller from d have a joint step
  abbrev pub Goes : A → D → Input → Type 0
  Goes a d i = (x : Step) × (input x ≡ i) × IsSome (ctx a x) × IsSome (step d (letter s x))

  -- "some triple has an i with no joint step", of the triples with P
  pub record Blocked (P : A → C → D → Type 0) : Type 0 where
    pub a : A
    pub c : C
    pub d : D
    pub i : Input
    pub from : P a c d
    pub wanted : asked c i
    pub stuck : ¬ Goes a d i

  -- of other triples
  module _ (P Q : A → C → D → Type 0) (same : (a : A) (c : C) (d : D) → P a c d → Q a c d) where
    leaving_map : Leaving P → Leaving Q
    leaving_map l = record { a = l.a; c = l.c; d = l.d; x = l.x; from = same l.a l.c l.d l.from; context = l.context; controller = l.controller; no_row = l.no_row }

    blocked_map : Blocked P → Blocked Q
    blocked_map b = record { a = b.a; c = b.c; d = b.d; i = b.i; from = same b.a b.c b.d b.from; wanted = b.wanted; stuck = b.stuck }

  module _ (P Q : A → C → D → Type 0) (same : (a : A) (c : C) (d : D) → P a c d ↔ Q a c d) where
    pub leaving_same : Leaving P ↔ Leaving Q
    leaving_same = (leaving_map P Q (λ a c d. (same a c d).0), leaving_map Q P (λ a c d. (same a c d).1))

    pub blocked_same : Blocked P ↔ Blocked Q
    blocked_same = (blocked_map P Q (λ a c d. (same a c d).0), blocked_map Q P (λ a c d. (same a c d).1))

module _ (s : System) {D : Type 0} (step : D → Letter s → Option D) (d0 : D) where
  open s use {Step, outside, A, a0, ctx, C, c0, spc}

  pub lacking_iff : Lacking s step d0 ↔ LacksReply s (Runs step d0)
  lacking_iff = (
    λ l. record {
      word = l.word;
      member = is_some l.reached;
      u = l.u;
      no_reply = λ r h. l.no_row r (subst IsSome (run_last step d0 l.word (l.u, r) l.reached) h);
    },
    λ l. let (d, e) = known (run step d0 l.word) l.member in
        record {
          word = l.word;
          d = d;
          reached = e;
          u = l.u;
          no_row = λ r h. l.no_reply r (subst IsSome (sym (run_last step d0 l.word (l.u, r) e)) h);
        },
  )

  -- the first step of the word that has no specification row
  first_leaving : (α : List Step) (a : A) (c : C) (d : D) → Triple s step d0 a c d → Runs ctx a α → Runs step d (map (letter s) α) → ¬ Runs spc c (map outside α) → Leaving s step (Triple s step d0)
  first_leaving [] a c d t ka kd n = absurd (n tt)
  first_leaving (x ∷ α) a c d t ka kd n =
      let (a', ea, ka') = first_step ctx a x α ka in
      let (d', ed, kd') = first_step step d (letter s x) (map (letter s) α) kd in
      go ea ed (λ c' ec n'. first_leaving α a' c' d' (triple_last s step d0 x t ea ec ed) ka' kd' n') (spc c (outside x)) refl
    where
      go : {a' : A} {d' : D} → ctx a x ≡ some a' → step d (letter s x) ≡ some d'
          → ((c' : C) → spc c (outside x) ≡ some c' → ¬ Runs spc c' (map outside α) → Leaving s step (Triple s step d0))
          → (o : Option C) → spc c (outside x) ≡ o → Leaving s step (Triple s step d0)
      go ea ed rest none ec = record { a = a; c = c; d = d; x = x; from = t; context = is_some ea; controller = is_some ed; no_row = ec }
      go ea ed rest (some c') ec = rest c' ec (λ h. n (runs_cons spc (map outside α) ec h))

  pub leaving_iff : Leaving s step (Triple s step d0) ↔ LeavesSpecification s (Runs step d0)
  leaving_iff = (
    λ l. let (α, ea, ec, ed) = l.from in
        record {
          word = α ++ (l.x ∷ []);
          combined = subst IsSome (sym (run_last ctx a0 α l.x ea)) l.context;
          member = subst IsSome (sym (read_last step d0 (letter s) α l.x ed)) l.controller;
          not_within = λ h. not_both (subst IsSome (read_last spc c0 outside α l.x ec) h) l.no_row;
        },
    λ l. first_leaving l.word a0 c0 d0 ([], refl, refl, refl) l.combined l.member l.not_within,
  )

  pub blocked_iff : Blocked s step (Triple s step d0) ↔ LacksContinuation s (Runs step d0)
  blocked_iff = (
    λ b. let (α, ea, ec, ed) = b.from in
        record {
          word = α;
          combined = is_some ea;
          member = is_some ed;
          c = b.c;
          within = ec;
          i = b.i;
          wanted = b.wanted;
          no_step = λ n. b.stuck (n.0, n.1, subst IsSome (run_last ctx a0 α n.0 ea) n.2, subst IsSome (read_last step d0 (letter s) α n.0 ed) n.3);
        },
    λ l. let (a, ea) = known (run ctx a0 l.word) l.combined in
        let (d, ed) = known (run step d0 (map (letter s) l.word)) l.member in
        record {
          a = a;
          c = l.c;
          d = d;
          i = l.i;
          from = (l.word, ea, l.within, ed);
          wanted = l.wanted;
          stuck = λ n. l.no_step (n.0, n.1, subst IsSome (sym (run_last ctx a0 l.word n.0 ea)) n.2, subst IsSome (sym (read_last step d0 (letter s) l.word n.0 ed)) n.3);
        },
  )

-- a good controller, of any size, has none of the three
module _ (s : System) (X : Words (Letter s)) (good : Good s X) where
  pub good_replies : ¬ LacksReply s X
  good_replies l = ∥∥₁_elim (good.signals l.word l.member l.u) ⊥_prop (λ r. l.no_reply r.0 r.1)

  pub good_stays : ¬ LeavesSpecification s X
  good_stays l = l.not_within (good.within l.word l.combined l.member)

  pub good_continues : ¬ LacksContinuation s X
  good_continues l = ∥∥₁_elim (good.continues l.word l.combined l.member l.c l.within l.i l.wanted) ⊥_prop l.no_step

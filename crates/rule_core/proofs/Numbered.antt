-- Tables with the numbers of rules.
use Rattle.std.proofs.Common.{◌++◌, nat_eq, if◌then◌else◌, List, [], ◌∷◌, length, sym, ap, ◌∙◌}
use Rattle.tables.specs.Tables.{Gains, Keeps}
use Rattle.tables.proofs.Places.{places-push}
use Rattle.rule_core.specs.declared.numbers.Numbers.{Numbers}
use Rattle.rule_core.specs.declared.rule.Rule.{Rule}
use Rattle.rule_core.specs.Numbers.{same_pair, is_for, is_of, is_with, HaveNumbers}

module _ (old new : Numbers) (rules : List Rule) (have : HaveNumbers old rules) where
  -- a rule goes last
  pub HaveNumbers-push : (rule : Rule) → Gains same_pair old.pairs new.pairs (rule.relation.0, rule.con.0) (length rules) → Gains nat_eq old.relations new.relations rule.relation.0 (length rules)
      → Gains nat_eq old.constructors new.constructors rule.con.0 (length rules) → HaveNumbers new (rules ++ rule ∷ [])
  HaveNumbers-push rule p r c = record {
    of_pairs = λ pair. p pair ∙ ap (λ ns. ns ++ (if is_for pair rule then length rules ∷ [] else [])) (have.of_pairs pair) ∙ sym (places-push (is_for pair) rules rule);
    of_relations = λ relation. r relation ∙ ap (λ ns. ns ++ (if is_of relation rule then length rules ∷ [] else [])) (have.of_relations relation) ∙ sym (places-push (is_of relation) rules rule);
    of_constructors = λ con. c con ∙ ap (λ ns. ns ++ (if is_with con rule then length rules ∷ [] else [])) (have.of_constructors con) ∙ sym (places-push (is_with con) rules rule);
  }

  -- the lists stay
  pub HaveNumbers-keep : Keeps same_pair old.pairs new.pairs → Keeps nat_eq old.relations new.relations → Keeps nat_eq old.constructors new.constructors → HaveNumbers new rules
  HaveNumbers-keep p r c = record {
    of_pairs = λ pair. p pair ∙ have.of_pairs pair;
    of_relations = λ relation. r relation ∙ have.of_relations relation;
    of_constructors = λ con. c con ∙ have.of_constructors con;
  }

-- The rules of the shifts are rules of their signature.
use Rattle.std.proofs.Common.{◌≡◌, ◌<◌, ◌^◌, ℕ, true, false, not, ◌&&◌, List, [], ◌∷◌, map, refl, sym, ap, ap₂, ◌∙◌, subst, arith, rules}
use Rattle.std.specs.List.{list_all}
use Rattle.std.proofs.lemmas.List.Elements.{All-cons, All-nil}
use Rattle.sig_core.specs.declared.value.Value.{Value}
use Rattle.expr_core.specs.declared.expr.Op.{Op}
use Rattle.expr_core.specs.declared.expr.Op.TheVariants as op
use Rattle.expr_core.specs.declared.expr.Expr.{Expr, the_lemmas}
use Rattle.expr_core.specs.declared.expr.Expr.TheVariants.{Slot, Lit, Apply}
use Rattle.expr_core.specs.declared.expr.Expr.TheFolds.{fold-Expr}
use Rattle.expr_core.proofs.Equations.{count-Apply, count-Lit, count-Slot}
use Rattle.rule_core.specs.declared.rule.Atom.TheVariants as atom
use Rattle.rule_core.specs.Rulebooks.{HasSmallParts, IsRuleOf, IsSmall}
use Rattle.eval_core.specs.ShiftExample.{call_at_next, int, shift_rule, shifts, x_rule, zero_rule}
use Rattle.problem_core.specs.Soundness.{Signs, is_clean, is_clean_atom, is_natural, negates_natural, signs_step}

slot_small : (i : ℕ) → IsSmall (Slot i)
slot_small i = subst (λ n. n < 2 ^ 32) (sym (count-Slot i)) (omega arith)

lit_small : (v : Value) → IsSmall (Lit v)
lit_small v = subst (λ n. n < 2 ^ 32) (sym (count-Lit v)) (omega arith)

next_small : IsSmall (Apply op.Add (Slot 0 ∷ Lit (int 1) ∷ []))
next_small =
    let whole = count-Apply op.Add (Slot 0 ∷ Lit (int 1) ∷ []) in
    let left = count-Slot 0 in
    let right = count-Lit (int 1) in
    grind (arith, whole, left, right)

pub zero_fits : IsRuleOf shifts zero_rule
zero_fits = record {
  relation = omega arith;
  con = omega arith;
  same_type = refl;
  few_slots = omega arith;
  few_atoms = omega arith;
  small = All-cons HasSmallParts (atom.Fill 1 (Lit (int 0))) [] (lit_small (int 0)) (All-nil HasSmallParts);
}

pub x_fits : IsRuleOf shifts x_rule
x_fits = record {
  relation = omega arith;
  con = omega arith;
  same_type = refl;
  few_slots = omega arith;
  few_atoms = omega arith;
  small = All-cons HasSmallParts (atom.Fill 1 (Slot 0)) [] (slot_small 0) (All-nil HasSmallParts);
}

pub shift_fits : IsRuleOf shifts shift_rule
shift_fits = record {
  relation = omega arith;
  con = omega arith;
  same_type = refl;
  few_slots = omega arith;
  few_atoms = omega arith;
  small = All-cons HasSmallParts (atom.Call call_at_next) (atom.Fill 1 (Slot 2) ∷ []) (
    All-cons IsSmall (Apply op.Add (Slot 0 ∷ Lit (int 1) ∷ [])) [] next_small (All-nil IsSmall),
    All-cons IsSmall (Slot 2) [] (slot_small 2) (All-nil IsSmall),
  ) (All-cons HasSmallParts (atom.Fill 1 (Slot 2)) [] (slot_small 2) (All-nil HasSmallParts));
}

abbrev signs : Expr → Signs
signs = fold-Expr Signs signs_step

signs-Slot : (i : ℕ) → signs (Slot i) ≡ record { is_natural = false; is_clean = true }
signs-Slot i = search (rules, the_lemmas)

signs-Lit : (v : Value) → signs (Lit v) ≡ record { is_natural = is_natural v; is_clean = true }
signs-Lit v = search (rules, the_lemmas)

signs-Apply : (o : Op) (kids : List Expr) → signs (Apply o kids) ≡ record { is_natural = false; is_clean = list_all (λ (kid : Signs). kid.is_clean) (map signs kids) && not (negates_natural o (map signs kids)) }
signs-Apply o kids = search (rules, the_lemmas)

slot_clean : (i : ℕ) → is_clean (Slot i) ≡ true
slot_clean i = ap (λ (s : Signs). s.is_clean) (signs-Slot i)

next_clean : is_clean (Apply op.Add (Slot 0 ∷ Lit (int 1) ∷ [])) ≡ true
next_clean =
    ap (λ (s : Signs). s.is_clean) (signs-Apply op.Add (Slot 0 ∷ Lit (int 1) ∷ []))
    ∙ ap₂ (λ (s t : Signs). (s.is_clean && (t.is_clean && true)) && not (negates_natural op.Add (s ∷ t ∷ []))) (signs-Slot 0) (signs-Lit (int 1))

pub zero_clean : list_all is_clean_atom zero_rule.atoms ≡ true
zero_clean = ap (λ (s : Signs). s.is_clean && true) (signs-Lit (int 0))

pub x_clean : list_all is_clean_atom x_rule.atoms ≡ true
x_clean = ap (λ b. b && true) (slot_clean 0)

pub shift_clean : list_all is_clean_atom shift_rule.atoms ≡ true
shift_clean = ap₂ (λ b c. ((b && true) && (c && true)) && (c && true)) next_clean (slot_clean 2)

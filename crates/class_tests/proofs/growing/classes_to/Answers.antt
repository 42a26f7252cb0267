use Rattle.std.proofs.Common.{◌∙◌, length, ap, sym, subst, arith}
use Rattle.class_tests.proofs.growing.classes_to.Goals as goal

pub loop-size-init : goal.loop-size-init
loop-size-init g c = record {
  grown = omega (arith, c.new-classes.ensures.none);
  signature = subst (λ l. g.L.Lens.is_for l c.args.signature.now) (sym c.new-classes.ensures.lens) c.requires.signature;
  bank = subst (λ l. g.L.Lens.fits l c.args.bank.now) (sym c.new-classes.ensures.lens) c.requires.bank;
  stands = c.new-classes.ensures.stands c.args.grammar.now c.args.bank.now;
  lists = λ other. (c.new-lists.ensures.stands c.args.grammar.now c.args.bank.now, ap length c.new-lists.ensures.empty ∙ sym c.new-classes.ensures.none);
}

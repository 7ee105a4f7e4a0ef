use Rattle.std.proofs.Common.{ap, ◌∙◌, get_or, map, []}
use Rattle.kconf_tree.specs.declared.links.Link.TheVariants.{Selects, Implies}
use Rattle.kconf_tree.specs.Linking.{linker_of}
use Rattle.kconf_tree.proofs.LinkLaws.{links_at}
use Rattle.kconf_tree.proofs.parts.Parts.links.Goals as goal

pub returns : goal.returns
returns c = let t = c.args.self.now in record {
  selects = record {
    count = c.in_ok-selects.ensures.count;
    each = λ k l. ap (λ rows. map (linker_of t Selects) (get_or rows k [])) c.in_ok-selects.ensures.rows ∙ links_at t c.requires Selects k l;
    within = c.in_ok-selects.ensures.within;
  };
  implies = record {
    count = c.in_ok-implies.ensures.count;
    each = λ k l. ap (λ rows. map (linker_of t Implies) (get_or rows k [])) c.in_ok-implies.ensures.rows ∙ links_at t c.requires Implies k l;
    within = c.in_ok-implies.ensures.within;
  };
}

use Rattle.std.proofs.Common.{◌≡◌, get_or, refl, ◌∙◌}
use Rattle.std.proofs.lemmas.List.{length-set, get_or_default}
use Rattle.sat_log.specs.Links.{none}
use Rattle.sat_log.proofs.Linking.{list_taken}
use Rattle.sat_log.proofs.links.Links.take_list.Goals as goal

pub returns : goal.returns
returns c =
    let l = c.args.self.now in
    let first_is : c.index-first.result.now ≡ get_or l.heads.items c.args.code 0 = c.index-first.ensures ∙ get_or_default l.heads.items c.args.code _ 0 c.requires.code in
    record {
      taken = record {
        off = rw first_is (list_taken l.watched.items l.heads.items l.next.items l.slots c.args.code c.requires.linked c.requires.code);
        watched = refl;
        slots = refl;
        heads = length-set l.heads.items c.args.code none;
      };
    }

use Rattle.std.proofs.Common.{◌≡◌, ◌<◌, length, sym, subst}
use Rattle.hw_names.proofs.NameLemmas.{text_of-slice_get}
use Rattle.hw_names.specs.Name.{text_of}
use Rattle.cal_place.specs.Around.{Around, names_at}
use Rattle.cal_place.proofs.place.Place.text.Goals as goal

pub text-requires : goal.text-requires
text-requires c = subst (λ (p : Around). c.args.id.0 < length p.design.names) (sym c.self.view_is) c.requires

pub returns : goal.returns
returns c =
    subst (λ (p : Around). c.text.result.now ≡ text_of (names_at p) c.args.id) c.self.view_is
    (sym (text_of-slice_get c.self.inside.design.now.names c.args.id c.text.result.now c.text.ensures))

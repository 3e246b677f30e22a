use Rattle.std.proofs.Common.{refl, subst}
use Rattle.cal_parse.specs.Spelling.{EndsBy}
use Rattle.cal_parse.specs.declared.parse.CalTextEnd.{CalTextEnd}
use Rattle.filc_load.specs.CalFile.{ByTokens, ByNesting, ByGrammar}
use Rattle.filc_load.proofs.cal_file.stop_of.Goals as goal

pub returns-in-Token : goal.returns-in-Token
returns-in-Token c =
    let faults = subst (λ (end : CalTextEnd). EndsBy c.args.text.now end) c.in-Token.is c.requires in
    ByTokens (record { at = c.in-Token.at; faults = faults; is = refl; tells = refl })

pub returns-in-Nesting : goal.returns-in-Nesting
returns-in-Nesting c =
    let nested = subst (λ (end : CalTextEnd). EndsBy c.args.text.now end) c.in-Nesting.is c.requires in
    ByNesting (record { depth = c.in-Nesting.count; nested = nested.0; deep = nested.1; is = refl; tells = refl })

pub returns-in-Grammar : goal.returns-in-Grammar
returns-in-Grammar c =
    let refused = subst (λ (end : CalTextEnd). EndsBy c.args.text.now end) c.in-Grammar.is c.requires in
    ByGrammar (record { at = c.in-Grammar.at; shallow = refused.0; refusal = refused.1.0; of_profile = refused.1.1; is = refl; tells = refl })

pub left_out-requires : goal.left_out-requires
left_out-requires c = subst (λ (end : CalTextEnd). EndsBy c.args.text.now end) c.in-LeftOut.is c.requires

use Rattle.plan_tool.proofs.AnswerLemmas.{fits_answered, rows_given}
use Rattle.plan_tool.proofs.listings.answered.Goals as goal

pub rows_of-requires-clause-fits : goal.rows_of-requires-clause-fits
rows_of-requires-clause-fits g c =
    fits_answered c.args.document.now.tables _ _ c.in_ok-optimize.ensures.promised.refines (c.in_ok-check_tables.ensures.frames c.args.document.now.ex c.in_ok-check.ensures.stands)

pub returns-clause-lists : goal.returns-clause-lists
returns-clause-lists g c = λ text listed.
    let d = c.args.document.now in
    let fits = c.in_ok-check_tables.ensures.frames d.ex c.in_ok-check.ensures.stands in
    record {
      columns = c.in_ok-check.field-0;
      checked = c.in_ok-check.ensures.checks;
      fit = c.in_ok-check_tables.ensures.fit d.ex c.in_ok-check.ensures.stands;
      is = record {
        nodes = c.optimize.new.lp;
        exprs = c.optimize.new.ex;
        promised = c.in_ok-optimize.ensures.promised;
        steps = c.in_ok-optimize.ensures.chained.steps;
        chain = c.in_ok-optimize.ensures.chained.chain;
        rows = c.in_ok-rows.rows;
        answered_rows = c.in_ok-rows.ensures;
        given_rows = rows_given d.tables _ _ c.in_ok-rows.rows c.in_ok-optimize.ensures.promised.refines fits c.in_ok-rows.ensures;
        lists = listed;
      };
    }

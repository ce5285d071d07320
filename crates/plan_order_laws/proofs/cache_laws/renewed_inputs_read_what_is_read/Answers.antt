use Rattle.plan_order_laws.proofs.SiteReads.{cut_sites, renewed_names, renewed_reads}
use Rattle.plan_order_laws.proofs.SiteInputs.{sites_narrowed}
use Rattle.plan_order_laws.proofs.cache_laws.renewed_inputs_read_what_is_read.Goals as goal

pub returns-clause-names : goal.returns-clause-names
returns-clause-names c = λ read p v. renewed_names read p v

pub returns-clause-reads : goal.returns-clause-reads
returns-clause-reads c = λ read p v. renewed_reads read p v

pub returns-clause-sites : goal.returns-clause-sites
returns-clause-sites c = λ id read p v. sites_narrowed read id p v

pub returns-clause-cut : goal.returns-clause-cut
returns-clause-cut c = λ read p v. cut_sites read p v

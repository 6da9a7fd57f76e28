use Rattle.site.proofs.RuleLaws.{site_header}
use Rattle.site.proofs.Site.partitions.Goals as goal

pub of-requires : goal.of-requires
of-requires c = (site_header c.args.self.now.file.now c.args.self.now.good).whole

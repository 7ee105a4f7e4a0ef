mod InnerBlocks
mod ArrangingLaws
mod ReportLaws
